-- `scene::marching::trace` meets its contract. The loop has made its samples, and what is left of the definition starts at the cursor. Assumes nothing.
use Prim.Native.Nat.{◌-◌, ◌≤◌}
use Rattle.scene.specs.Marching.{trace, trace_from}
use mathlib.Core.Path.{◌≡◌}
use Rattle.scene.proofs.marching.trace.Given as goal

abbrev pub invariant-loop-m : goal.invariant-loop-m
invariant-loop-m l = (l.m.steps ≤ 128) × (trace l.scene l.ray.ro l.ray.rd l.ray.tmin l.ray.tmax ≡ trace_from l.scene l.ray.ro l.ray.rd l.ray.tmax (128 - l.m.steps) l.m.steps l.m.t)

abbrev pub decreases-loop-m : goal.decreases-loop-m
decreases-loop-m l = 128 - l.m.steps
