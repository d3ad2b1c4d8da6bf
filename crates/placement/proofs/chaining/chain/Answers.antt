-- `placement::chaining::chain` meets its contract. The point's cell is that of the block without reach; the new link leads to the last point so far. Assumes nothing.
use mathlib.Core.Path.{refl}
use Prim.Native.Nat.{◌+◌}
use native.Mathlib.Omega.{arith}
use lib.Seq.{drop-set-lt}
use Rattle.vector.specs.Flat.{vec_at}
use Rattle.grid.specs.Cells.{cells}
use Rattle.placement.specs.Kept.{dims_in}
use Rattle.placement.proofs.Linked.{own_cell, own_below, chains_more}
use Rattle.placement.proofs.chaining.chain.Goals as goal

pub offset_bounds-head-c : goal.offset_bounds-head-c
offset_bounds-head-c c =
    omega (arith, own_below c.args.s (vec_at c.args.p.now) c.args.count c.requires.at_value c.block_near-own.ensures, c.requires.chains.celled)

pub bounds-head-c : goal.bounds-head-c
bounds-head-c c =
    omega (arith, own_below c.args.s (vec_at c.args.p.now) c.args.count c.requires.at_value c.block_near-own.ensures, c.requires.chains.celled)

pub offset_bounds-head-c-2 : goal.offset_bounds-head-c-2
offset_bounds-head-c-2 c =
    omega (arith, own_below c.args.s (vec_at c.args.p.now) c.args.count c.requires.at_value c.block_near-own.ensures, c.requires.chains.celled)

pub bounds-head-c-2 : goal.bounds-head-c-2
bounds-head-c-2 c =
    omega (arith, own_below c.args.s (vec_at c.args.p.now) c.args.count c.requires.at_value c.block_near-own.ensures, c.requires.chains.celled)

pub returns-clause-chains_2 : goal.returns-clause-chains_2
returns-clause-chains_2 c =
    let a = c.args in
    let e = own_cell a.s (vec_at a.p.now) a.count c.requires.at_value c.block_near-own.ensures in
    chains_more a.s a.count a.p.now c.requires.chains c.requires.count_in_bounds c.requires.count_in_bounds_2 e refl refl

pub returns-clause-kept_from : goal.returns-clause-kept_from
returns-clause-kept_from c =
    let a = c.args in
    let l = own_below a.s (vec_at a.p.now) a.count c.requires.at_value c.block_near-own.ensures in
    drop-set-lt (cells (dims_in a.s)) a.head.now c.block_near-own.result.first (a.count + 1) l
