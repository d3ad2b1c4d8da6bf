-- `field::projection::project` meets its contract. The loop has made i tests, and what is left of the definition starts at q. Assumes nothing.
use Prim.Native.Nat.{◌-◌, ◌≤◌}
use Rattle.field.specs.Projection.{project, project_from}
use mathlib.Core.Path.{◌≡◌}
use Rattle.field.proofs.projection.project.Given as goal

abbrev pub invariant-loop-i : goal.invariant-loop-i
invariant-loop-i l = (l._i ≤ 10) × (project l.scene l.initial.q l.eps l.diag ≡ project_from l.scene l.eps l.diag (10 - l._i) l.q)
