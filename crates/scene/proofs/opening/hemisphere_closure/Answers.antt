-- `scene::opening::hemisphere_closure` meets its contract. The count of `openings` is divided by 16. Assumes nothing.
use Prim.Native.Nat.{◌≤◌}
use Rattle.scene.proofs.Evals.{openings_few}
use Rattle.scene.proofs.Rays.{sixteen}
use Rattle.scene.specs.Opening.{hemisphere_closure}
use borrow.Author.Tests.{le-leb}
use denote.Floats.{passes}
use lib.Ieee.{in_float}
use native.Mathlib.Omega.{arith}
use Rattle.scene.proofs.opening.hemisphere_closure.Goals as goal

pub int_to_float-result : goal.int_to_float-result
unfolding in_float
int_to_float-result c =
    let few : c.openings-o.result.missed ≤ 16 = rw c.openings-o.ensures (openings_few _ _ _ _ 16).0 in
    passes _ (le-leb c.openings-o.result.missed 16777216 (omega arith))

pub returns : goal.returns
unfolding hemisphere_closure
returns c =
    rw (c.openings-o.ensures, sixteen)
