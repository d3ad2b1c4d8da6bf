-- `tables::Scene::all_fit` meets its contract. The loop has tested the first j parts. Assumes nothing.
use Prim.Native.Nat.{◌≤◌}
use Rattle.accept.specs.Every.{every}
use Rattle.tables.specs.Checks.{part_fits}
use Rattle.tables.specs.Tables.{part_at}
use mathlib.Core.Path.{◌≡◌}
use Rattle.tables.proofs.Scene.all_fit.Given as goal

abbrev pub invariant-loop-j : goal.invariant-loop-j
invariant-loop-j l = (l.j ≤ l.n) × (l.ok ≡ every (λ i. part_fits l.self l.plane (part_at l.parts i)) l.j)
