-- `scene::marching::trace` meets its contract. The loop has made its samples, and what is left of the definition starts at the cursor. Assumes nothing.
use Prim.Native.Nat.{◌-◌, ◌+◌}
use Rattle.scene.proofs.Turns.{trace_hit, trace_past, trace_on, trace_end}
use Rattle.scene.specs.Marching.{trace}
use mathlib.Core.Path.{◌≡◌, refl, ap}
use native.Mathlib.Omega.{arith}
use Rattle.scene.proofs.marching.trace.Goals as goal

pub loop-m-init : goal.loop-m-init
unfolding trace
loop-m-init c =
    (omega arith, refl)

pub returns-then-h-tolerance : goal.returns-then-h-tolerance
returns-then-h-tolerance c =
    rw (c.hit.ensures, c.loop-m.invariant.1)
    (trace_hit _ _ _ _ (127 - c.loop-m.m.steps) _ _ _ _ _ _ (omega arith) c.at-p.ensures c.dist_mat-h.ensures c.tolerance.ensures _ refl c.if-h-tolerance.true)

pub loop-m-preserved : goal.loop-m-preserved
loop-m-preserved c =
    let w = c.ahead-m.ensures in
    let e : c.ahead-m.result.steps ≡ c.loop-m.m.steps + 1 = ap (λ m. m.steps) w in (
      omega arith,
      rw c.loop-m.invariant.1
          (trace_on _ _ _ _ (128 - c.ahead-m.result.steps) _ _ _ _ _ _ (omega arith) c.at-p.ensures c.dist_mat-h.ensures c.tolerance.ensures _ _ (ap (λ m. m.t) w) e c.if-h-tolerance.false c.if-m-ray.false),
    )

pub returns-after-loop-m : goal.returns-after-loop-m
returns-after-loop-m c =
    let e : 128 - c.loop-m.m.steps ≡ 0 = omega arith in
    rw (c.loop-m.invariant.1, e) (trace_end _ _ _ _ _ _)

pub returns-then-m-ray : goal.returns-then-m-ray
returns-then-m-ray c =
    let w = c.ahead-m.ensures in
    rw c.loop-m.invariant.1
    (trace_past _ _ _ _ (127 - c.loop-m.m.steps) _ _ _ _ _ _ (omega arith) c.at-p.ensures c.dist_mat-h.ensures c.tolerance.ensures _ _ (ap (λ m. m.t) w) (ap (λ m. m.steps) w) c.if-h-tolerance.false c.if-m-ray.true)
