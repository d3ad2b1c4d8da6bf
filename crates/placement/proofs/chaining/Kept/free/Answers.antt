-- `placement::chaining::Kept::free` meets its contract. The cells that the loops have passed have no point that is too close; the one at which they break has. Assumes nothing.
use mathlib.Core.Path.{sym, ◌∙◌}
use native.Mathlib.Omega.{arith}
use Rattle.vector.specs.Flat.{vec_at}
use Rattle.placement.proofs.Crowded.{rows_more, layers_more, cell_below, cell_small, taken, roomy}
use Rattle.placement.proofs.chaining.Kept.free.Goals as goal

pub cell_at-requires : goal.cell_at-requires
cell_at-requires c =
    cell_small c.args.self.now.s c.args.at c.block_near-b.ensures c.loop-x.x c.loop-y.y c.search.z c.loop-x-test.true c.loop-y-test.true c.search-test.true

pub vacant-requires : goal.vacant-requires
vacant-requires c =
    rw (c.cell_at.ensures, c.block_near-b.ensures) (cell_below c.args.self.now.s c.args.at c.loop-x.x c.loop-y.y c.search.z (rw c.block_near-b.ensures at c.loop-x-test.true) (rw c.block_near-b.ensures at c.loop-y-test.true) (rw c.block_near-b.ensures at c.search-test.true))

pub loop-y-preserved : goal.loop-y-preserved
loop-y-preserved c =
    (c.loop-x.invariant.0, c.loop-x.invariant.1, rows_more c.args.self.now.s c.args.at (vec_at c.args.self.now.p.now) c.args.self.now.count c.loop-y.y c.search.z c.loop-x.invariant.2 c.loop-x.invariant.3 (rw c.block_near-b.ensures at c.loop-x-test.false))

pub search-preserved : goal.search-preserved
search-preserved c =
    (c.loop-y.invariant.0, layers_more c.args.self.now.s c.args.at (vec_at c.args.self.now.p.now) c.args.self.now.count c.search.z c.loop-y.invariant.1 c.loop-y.invariant.2 (rw c.block_near-b.ensures at c.loop-y-test.false))

pub returns-after-search : goal.returns-after-search
returns-after-search c =
    let l = rw c.block_near-b.ensures at c.search-test.false in
    c.search.invariant.0 ∙ sym (roomy c.args.self.now.s c.args.at (vec_at c.args.self.now.p.now) c.args.self.now.count (λ x y z h k m. c.search.invariant.1 x y z h k (omega arith)))

pub returns-then-not-vacant : goal.returns-then-not-vacant
returns-then-not-vacant c =
    sym (taken c.args.self.now.s c.args.at (vec_at c.args.self.now.p.now) c.args.self.now.count c.loop-x.x c.loop-y.y c.search.z (rw c.block_near-b.ensures at c.loop-x-test.true) (rw c.block_near-b.ensures at c.loop-y-test.true) (rw c.block_near-b.ensures at c.search-test.true) (rw (c.cell_at.ensures, c.block_near-b.ensures) at (sym c.vacant.ensures ∙ c.if-not-vacant.true)))
