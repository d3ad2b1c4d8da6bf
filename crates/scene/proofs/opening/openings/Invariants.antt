-- `scene::opening::openings` meets its contract. The loop has counted the first rays. Assumes nothing.
use Prim.Native.Nat.{◌≤◌}
use Rattle.scene.specs.Opening.{openings}
use mathlib.Core.Path.{◌≡◌}
use Rattle.scene.proofs.opening.openings.Given as goal

abbrev pub invariant-loop-bits : goal.invariant-loop-bits
invariant-loop-bits l = (l.bits-index ≤ 16) × (l.o ≡ openings l.scene l.p l.n l.tmax l.bits-index)
