-- `field::nearest::nearest_part` meets its contract. The loop has compared the first j parts; one passed over would have changed nothing. Assumes nothing.
use Prim.Native.Nat.{◌≤◌}
use Rattle.field.specs.Nearest.{part_hit, nearer}
use Rattle.tables.specs.Tables.{prim_of, part_at}
use Rattle.vector.specs.Fold.{fold}
use mathlib.Core.Path.{◌≡◌}
use Rattle.field.proofs.nearest.nearest_part.Given as goal

abbrev pub invariant-loop-j : goal.invariant-loop-j
invariant-loop-j l = (l.j ≤ l.n) × (l.best ≡ fold nearer l.initial.best (λ k. part_hit (prim_of l.scene) l.p (part_at l.parts k)) l.j)
