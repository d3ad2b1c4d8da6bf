-- `scene::shading::soft_shadow` meets its contract. The loop has made its samples, and what is left of the definition starts at the cursor. Assumes nothing.
use Prim.Native.Nat.{◌-◌, ◌+◌}
use Rattle.scene.proofs.Turns.{shadow_touch, shadow_occluded, shadow_on, shadow_end, shadow_past}
use Rattle.scene.specs.Shading.{soft_shadow, visible}
use mathlib.Core.Path.{◌≡◌, refl, ap}
use native.Mathlib.Omega.{arith}
use Rattle.scene.proofs.shading.soft_shadow.Goals as goal

pub loop-m-init : goal.loop-m-init
unfolding soft_shadow
loop-m-init c =
    (omega arith, refl)

pub returns-then-h : goal.returns-then-h
returns-then-h c =
    rw c.loop-m.invariant.1
    (shadow_touch _ _ _ _ _ (95 - c.loop-m.m.steps) _ _ _ _ _ _ _ (omega arith) c.if-m-ray.true c.at.ensures c.dist-h.ensures c.if-h.true)

pub returns-then-res : goal.returns-then-res
returns-then-res c =
    rw c.loop-m.invariant.1
    (shadow_occluded _ _ _ _ _ (95 - c.loop-m.m.steps) _ _ _ _ _ _ _ (omega arith) c.if-m-ray.true c.at.ensures c.dist-h.ensures _ c.lowered-res.ensures c.if-h.false c.if-res.true)

pub loop-m-preserved : goal.loop-m-preserved
loop-m-preserved c =
    let e : c.onward-m.result.steps ≡ c.loop-m.m.steps + 1 = ap (λ m. m.steps) c.onward-m.ensures in (
      omega arith,
      rw (c.loop-m.invariant.1, c.onward-m.ensures)
          (shadow_on _ _ _ _ _ (96 - (c.loop-m.m.steps + 1)) _ _ _ _ _ _ _ (omega arith) c.if-m-ray.true c.at.ensures c.dist-h.ensures _ c.lowered-res.ensures c.if-h.false c.if-res.false),
    )

pub returns : goal.returns
unfolding visible
returns c =
    rw (c.clamp.ensures, c.loop-m.invariant.1)
    (elim c.loop-m-test.branch [
      | goal.then-loop-m-test+else-m-ray w ↦ shadow_past _ _ _ _ _ _ _ _ _ _ w.if-m-ray.false
      | goal.else-loop-m-test w ↦ let e : 96 - c.loop-m.m.steps ≡ 0 = omega arith in rw e (shadow_end _ _ _ _ _ _ _ _ _)
    ])
