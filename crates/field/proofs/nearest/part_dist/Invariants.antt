-- `field::nearest::part_dist` meets its contract. The loop has subtracted the first i primitives. Assumes nothing.
use Prim.Native.Nat.{◌+◌, ◌≤◌}
use Rattle.float.specs.Order.{greater}
use Rattle.sdf.specs.Distance.{dist as shape_dist}
use Rattle.tables.specs.Tables.{prim_of}
use Rattle.vector.specs.Fold.{fold}
use lib.Ieee.{neg}
use mathlib.Core.Path.{◌≡◌}
use Rattle.field.proofs.nearest.part_dist.Given as goal

abbrev pub invariant-loop-i : goal.invariant-loop-i
invariant-loop-i l = (l.i ≤ l.many) × (l.d ≡ fold greater l.initial.d (λ j. neg (shape_dist (prim_of l.scene (l.first + j)) l.p)) l.i)
