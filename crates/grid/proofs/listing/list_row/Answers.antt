-- `grid::listing::list_row` meets its contract. The loop has stored the first j numbers. Assumes nothing.
use mathlib.Core.Path.{◌≡◌, refl}
use Prim.Native.Nat.{◌+◌}
use native.Mathlib.Omega.{arith}
use lib.ListN.{length-set}
use Rattle.vector.proofs.Stored.{slice_none, slice_stored}
use borrow.Author.Rules.{rules}
use Rattle.grid.proofs.listing.list_row.Goals as goal

pub loop-j-init : goal.loop-j-init
loop-j-init c =
    (search rules, slice_none c.args.from c.args.at c.args.list.now c.args.items.now, refl)

pub bounds-list-at : goal.bounds-list-at
bounds-list-at c =
    omega (arith, c.requires)

pub loop-j-preserved : goal.loop-j-preserved
loop-j-preserved c =
    let a = c.args in
    (search rules, slice_stored a.from c.loop-j.j a.at a.list.now a.items.now 0 (omega (arith, c.requires)) c.loop-j.invariant.1 refl refl, simp length-set c.loop-j.invariant.2)

pub shape_of-list : goal.shape_of-list
shape_of-list c =
    c.loop-j.invariant.2

pub returns : goal.returns
returns c =
    let a = c.args in
    let e : a.from + c.loop-j.j ≡ a.to = omega (arith, c.requires) in
    rw e at c.loop-j.invariant.1
