-- `scene::shading::soft_shadow` meets its contract. The loop has made its samples, and what is left of the definition starts at the cursor. Assumes nothing.
use Prim.Native.Nat.{◌-◌, ◌≤◌}
use Rattle.scene.specs.Shading.{soft_shadow, shadow_from}
use mathlib.Core.Path.{◌≡◌}
use Rattle.scene.proofs.shading.soft_shadow.Given as goal

abbrev pub invariant-loop-m : goal.invariant-loop-m
invariant-loop-m l = (l.m.steps ≤ 96) × (soft_shadow l.scene l.ray.ro l.ray.rd l.ray.tmin l.ray.tmax l.k ≡ shadow_from l.scene l.ray.ro l.ray.rd l.ray.tmax l.k (96 - l.m.steps) l.m.steps l.m.t l.m.ph l.m.res)

abbrev pub decreases-loop-m : goal.decreases-loop-m
decreases-loop-m l = 96 - l.m.steps
