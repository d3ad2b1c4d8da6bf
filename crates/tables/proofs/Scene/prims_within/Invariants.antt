-- `tables::Scene::prims_within` meets its contract. The loop has tested the first k primitives. Assumes nothing.
use Prim.Native.Nat.{◌≤◌}
use Rattle.accept.specs.Every.{every}
use Rattle.tables.specs.Checks.{prim_within}
use mathlib.Core.Path.{◌≡◌}
use Rattle.tables.proofs.Scene.prims_within.Given as goal

abbrev pub invariant-loop-k : goal.invariant-loop-k
invariant-loop-k l = (l.k ≤ l.self.prims) × (l.ok ≡ every (prim_within l.self) l.k)
