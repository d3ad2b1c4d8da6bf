-- `field::projection::project` meets its contract. The loop has made i tests, and what is left of the definition starts at q. Assumes nothing.
use Prim.Native.Nat.{◌-◌, ◌+◌}
use Rattle.field.proofs.Tests.{project_near, project_lost, project_far, project_on, project_end}
use Rattle.field.specs.Projection.{project}
use mathlib.Core.Path.{◌≡◌, refl, sym, ◌∙◌}
use native.Mathlib.Omega.{arith}
use Rattle.field.proofs.projection.project.Goals as goal

pub loop-i-init : goal.loop-i-init
unfolding project
loop-i-init c =
    (omega arith, refl)

pub returns-then-a-eps : goal.returns-then-a-eps
returns-then-a-eps c =
    rw c.loop-i.invariant.1
    (project_near _ _ _ (9 - c.loop-i._i) _ _ _ _ (omega arith) c.dist-d.ensures c.abs-a.ensures c.if-a-eps.true)

pub returns-then-not-is_finite : goal.returns-then-not-is_finite
returns-then-not-is_finite c =
    rw c.loop-i.invariant.1
    (project_lost _ _ _ (9 - c.loop-i._i) _ _ _ _ (omega arith) c.dist-d.ensures c.abs-a.ensures c.if-a-eps.false (sym c.is_finite.ensures ∙ c.if-not-is_finite.true))

pub returns-then-a-diag : goal.returns-then-a-diag
returns-then-a-diag c =
    rw c.loop-i.invariant.1
    (project_far _ _ _ (9 - c.loop-i._i) _ _ _ _ (omega arith) c.dist-d.ensures c.abs-a.ensures c.if-a-eps.false (sym c.is_finite.ensures ∙ c.if-not-is_finite.false) c.if-a-diag.true)

pub loop-i-preserved : goal.loop-i-preserved
loop-i-preserved c = (
  omega arith,
  rw c.loop-i.invariant.1
      (project_on _ _ _ (10 - (c.loop-i._i + 1)) _ _ _ _ (omega arith) c.dist-d.ensures c.abs-a.ensures c.if-a-eps.false (sym c.is_finite.ensures ∙ c.if-not-is_finite.false) c.if-a-diag.false _ c.moved-q.ensures),
)

pub returns : goal.returns
returns c =
    let e : 10 - c.loop-i._i ≡ 0 = omega arith in
    rw (c.loop-i.invariant.1, e) (project_end _ _ _ _)
