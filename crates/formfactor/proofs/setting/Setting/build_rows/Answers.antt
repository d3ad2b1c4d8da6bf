-- `formfactor::setting::Setting::build_rows` meets its contract. The loop has built i rows, all of which fitted. Assumes nothing.
use mathlib.Core.Path.{◌≡◌, refl, ap, ◌∙◌}
use native.Mathlib.Omega.{arith}
use Rattle.formfactor.specs.Lent.{Surfels, Setting, receiver_at}
use Rattle.formfactor.specs.Building.{row_at}
use Rattle.formfactor.proofs.Rowwise.{capacity_most, told_few, links_front, weights_front, links_inside, none_yet, one_more_row, stopped, all_built}
use Rattle.formfactor.proofs.setting.Setting.build_rows.Goals as goal

pub loop-i-init : goal.loop-i-init
loop-i-init c =
    let a = c.args in
    let t = a.self.now in
    let d = c.default-made.ensures in
    (none_yet t c.capacity-room.result a.starts.now a.link_cluster.now a.link_weight.now d.0 d.1.0.0 d.1.0.1 d.1.1, refl, refl)

pub overflow_cast-starts : goal.overflow_cast-starts
overflow_cast-starts c =
    omega (arith, links_inside c.loop-i.invariant.0, (capacity_most _ _ c.capacity-room.ensures).2)

pub overflow_sub-room : goal.overflow_sub-room
overflow_sub-room c =
    omega (arith, links_inside c.loop-i.invariant.0)

pub returns-then-room-made : goal.returns-then-room-made
unfolding row_at
returns-then-room-made c =
    let a = c.args in
    let t = a.self.now in
    let n = ap (λ (s : Surfels). s.n) c.surfels.view_is ∙ ap (λ (y : Setting). y.n) c.self.view_is in
    let m = c.make_row-row.ensures.row_standing in
    let v = c.receiver_at.ensures ∙ ap (λ (y : Setting). receiver_at y.p y.normals c.loop-i.i) c.self.view_is in
    let i = c.loop-i.invariant in
    let h = rw n at c.loop-i-test.true in
    record {
      link_weight_after = stopped t c.capacity-room.result a.starts.now a.link_cluster.now a.link_weight.now c.capacity-room.ensures c.loop-i.i i.0 h (omega (arith, h, c.requires.started)) (rw v at m.told) (omega (arith, links_inside c.loop-i.invariant.0, c.if-room-made.true));
      kept_from = links_front t c.loop-i.i c.loop-i.link (rw v at m.clusters) ∙ i.1;
      kept_from_2 = weights_front t c.loop-i.i c.loop-i.weight (rw v at m.weights) ∙ i.2;
    }

pub put_links-requires-clause-k_in_bounds_3 : goal.put_links-requires-clause-k_in_bounds_3
put_links-requires-clause-k_in_bounds_3 c =
    omega (arith, links_inside c.loop-i.invariant.0, c.if-room-made.false, (capacity_most _ _ c.capacity-room.ensures).0)

pub put_links-requires-clause-k_in_bounds_4 : goal.put_links-requires-clause-k_in_bounds_4
put_links-requires-clause-k_in_bounds_4 c =
    omega (arith, links_inside c.loop-i.invariant.0, c.if-room-made.false, (capacity_most _ _ c.capacity-room.ensures).1)

pub with-made-requires : goal.with-made-requires
with-made-requires c =
    let a = c.args in
    let t = a.self.now in
    let n = ap (λ (s : Surfels). s.n) c.surfels.view_is ∙ ap (λ (y : Setting). y.n) c.self.view_is in
    let g = rw c.self.view_is at c.self.invariant in
    let few = told_few t g.emitters.few c.loop-i.i c.loop-i.invariant.0.told in
    record { rows_few = omega (arith, rw n at c.loop-i-test.true, g.surfels.few); links_few = omega (arith, links_inside c.loop-i.invariant.0, c.if-room-made.false, (capacity_most _ _ c.capacity-room.ensures).2); interior_few = few.0; evals_few = few.1; row_evals_few = omega (arith, c.make_row-row.ensures.evals_bound, g.emitters.few) }

pub loop-i-preserved : goal.loop-i-preserved
unfolding row_at
loop-i-preserved c =
    let a = c.args in
    let t = a.self.now in
    let n = ap (λ (s : Surfels). s.n) c.surfels.view_is ∙ ap (λ (y : Setting). y.n) c.self.view_is in
    let m = c.make_row-row.ensures.row_standing in
    let v = c.receiver_at.ensures ∙ ap (λ (y : Setting). receiver_at y.p y.normals c.loop-i.i) c.self.view_is in
    let i = c.loop-i.invariant in
    let x = rw v at m.clusters in
    let y = rw v at m.weights in
    let u = c.put_links.ensures in (
      one_more_row t c.capacity-room.result a.starts.now a.link_cluster.now a.link_weight.now c.loop-i.i c.loop-i.link c.loop-i.weight i.0 (omega (arith, rw n at c.loop-i-test.true, c.requires.started)) (omega (arith, c.requires.scratch_held.links)) (omega (arith, c.requires.scratch_held.weights)) (rw v at m.told) x y (omega (arith, links_inside c.loop-i.invariant.0, c.if-room-made.false)) u.link_cluster_after u.link_weight_after c.with-made.ensures,
      links_front t c.loop-i.i c.loop-i.link x ∙ i.1,
      weights_front t c.loop-i.i c.loop-i.weight y ∙ i.2,
    )

pub overflow_cast-starts-2 : goal.overflow_cast-starts-2
overflow_cast-starts-2 c =
    omega (arith, links_inside c.loop-i.invariant.0, (capacity_most _ _ c.capacity-room.ensures).2)

pub built-requires : goal.built-requires
built-requires c =
    let a = c.args in
    let t = a.self.now in
    let n = ap (λ (s : Surfels). s.n) c.surfels.view_is ∙ ap (λ (y : Setting). y.n) c.self.view_is in
    let g = rw c.self.view_is at c.self.invariant in
    omega (arith, (told_few t g.emitters.few c.loop-i.i c.loop-i.invariant.0.told).0, g.surfels.few, n)

pub returns-clause-link_weight_after : goal.returns-clause-link_weight_after
returns-clause-link_weight_after c =
    let a = c.args in
    let t = a.self.now in
    let n = ap (λ (s : Surfels). s.n) c.surfels.view_is ∙ ap (λ (y : Setting). y.n) c.self.view_is in
    let e : c.loop-i.i ≡ t.n = omega (arith, c.loop-i-test.false, n) in
    rw (c.built.ensures, n) (all_built t c.capacity-room.result a.starts.now a.link_cluster.now a.link_weight.now c.capacity-room.ensures (rw e at c.loop-i.invariant.0) c.requires.started)
