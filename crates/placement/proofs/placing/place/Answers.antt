-- `placement::placing::place` meets its contract. The list has the points kept of the seeds tried so far, and they are chained. Assumes nothing.
use mathlib.Core.Logic.{inl, inr}
use mathlib.Core.Path.{ap, ◌∙◌}
use Prim.Native.Nat.{◌+◌}
use native.Mathlib.Omega.{arith}
use Rattle.seeds.specs.Seeds.{landed}
use Rattle.placement.specs.Lent.{Request}
use Rattle.placement.specs.Chains.{tried}
use Rattle.placement.proofs.Seeded.{emptied, emptied_held, emptied_past, none_yet, one_more, all_done}
use Rattle.placement.proofs.placing.place.Goals as goal

pub loop-i-init : goal.loop-i-init
loop-i-init c =
    let a = c.args in
    let r = a.request.now in
    none_yet r.scene a.s r.target (emptied_held c.requires c.cells.ensures c.clear.ensures) a.head.now (emptied c.requires c.cells.ensures c.clear.ensures)

pub returns-then-count-request-clause-p_after : goal.returns-then-count-request-clause-p_after
returns-then-count-request-clause-p_after c =
    let a = c.args in
    let r = a.request.now in
    let t = ap (λ (o : Request). o.target) c.request.view_is in
    all_done r.scene a.s r.target (emptied_held c.requires c.cells.ensures c.clear.ensures) c.loop-i.invariant (inr (c.if-count-request.true ∙ t)) (omega (arith, rw t at c.seed_count-i-end.ensures))

pub returns-then-count-request-clause-kept_from : goal.returns-then-count-request-clause-kept_from
returns-then-count-request-clause-kept_from c =
    c.loop-i.invariant.head_past ∙ emptied_past c.requires c.cells.ensures c.clear.ensures

pub loop-i-preserved : goal.loop-i-preserved
loop-i-preserved c =
    let a = c.args in
    let r = a.request.now in
    let h = c.loop-i.invariant in
    let t = ap (λ (o : Request). o.target) c.request.view_is in
    let u = c.try_seed-count in
    let e = u.ensures.p_after ∙ ap (λ (o : Request). tried a.s c.loop-i.count c.loop-i.p (landed o.scene a.s (c.loop-i.i + 1))) c.request.view_is in
    one_more r.scene a.s r.target (emptied_held c.requires c.cells.ensures c.clear.ensures) h (omega (arith, c.if-count-request.false, t, h.few)) e u.ensures.chains_2 u.auto.p u.auto.head u.auto.next u.ensures.kept_from u.ensures.kept_from_2

pub returns-clause-p_after : goal.returns-clause-p_after
returns-clause-p_after c =
    let a = c.args in
    let r = a.request.now in
    let n = rw (ap (λ (o : Request). o.target) c.request.view_is) at c.seed_count-i-end.ensures in
    all_done r.scene a.s r.target (emptied_held c.requires c.cells.ensures c.clear.ensures) c.loop-i.invariant (inl (omega (arith, c.loop-i-test.false, n))) (omega (arith, n))

pub returns-clause-kept_from : goal.returns-clause-kept_from
returns-clause-kept_from c =
    c.loop-i.invariant.head_past ∙ emptied_past c.requires c.cells.ensures c.clear.ensures
