-- `clusters::entries::build_clusters` meets its contract. A call that is not refused was lent what is needed, and the order, the groups and the clusters follow from one another. Assumes nothing.
use Rattle.std.proofs.Common.{length, refl, sym, ◌∙◌, arith}
use Rattle.std.proofs.lemmas.Result.{err_from_is_err_and}
use Rattle.clusters.specs.Left.{columns_held}
use Rattle.clusters.proofs.Answered.{accepted, answer_done, answer_refused, open_done}
use Rattle.clusters.proofs.Emitted.{order_sorted, order_kept, made_few, ranged, columns_made}
use Rattle.clusters.proofs.entries.build_clusters.Goals as goal

pub returns-in_err-check : goal.returns-in_err-check
returns-in_err-check c =
    let a = c.args in
    let p = err_from_is_err_and c.from_residual.result c.from_residual.ensures.1 in
    record { columns_value = rw (p.1, p.2) (answer_refused a.surfels.now a.cut.lo a.cut.hi a.cut.res (columns_held a.columns) (length a.order.now) (length a.spare.now) (sym c.check.ensures ∙ c.in_err-check.was)); kept_from = refl; kept_from_2 = refl }

pub voxels_of-requires : goal.voxels_of-requires
voxels_of-requires c =
    let a = c.args in
    (accepted a.surfels.now a.cut.lo a.cut.hi a.cut.res (columns_held a.columns) (length a.order.now) (length a.spare.now) (sym c.check.ensures ∙ c.in_ok-check.was)).sized

pub invariant_of-divided : goal.invariant_of-divided
invariant_of-divided c =
    let a = c.args in
    let w = accepted a.surfels.now a.cut.lo a.cut.hi a.cut.res (columns_held a.columns) (length a.order.now) (length a.spare.now) (sym c.check.ensures ∙ c.in_ok-check.was) in
    record { held = rw (c.lent.ensures, c.voxels_of.ensures) w.held }

pub sort-requires : goal.sort-requires
sort-requires c =
    let a = c.args in
    let w = accepted a.surfels.now a.cut.lo a.cut.hi a.cut.res (columns_held a.columns) (length a.order.now) (length a.spare.now) (sym c.check.ensures ∙ c.in_ok-check.was) in
    record { order_in_bounds = rw c.lent.ensures w.ordered; spare_in_bounds = rw c.lent.ensures w.spared }

pub group-made-requires : goal.group-made-requires
group-made-requires c =
    let a = c.args in
    let w = accepted a.surfels.now a.cut.lo a.cut.hi a.cut.res (columns_held a.columns) (length a.order.now) (length a.spare.now) (sym c.check.ensures ∙ c.in_ok-check.was) in
    let h = rw (← c.lent.ensures, ← c.voxels_of.ensures) at w.held in
    let r = rw (← c.lent.ensures) at w.roomy in
    record {
      sorted = order_sorted c.lent.result c.voxels_of.result h.resolved a.order.now c.sort.ensures.order_after (omega (arith, rw (← c.lent.ensures) at w.ordered, c.sort.auto.order));
      first_in_bounds = omega (arith, r);
      count_in_bounds = omega (arith, r);
      members_in_bounds = omega (arith, r);
    }

pub aggregate-requires : goal.aggregate-requires
aggregate-requires c =
    let a = c.args in
    let w = accepted a.surfels.now a.cut.lo a.cut.hi a.cut.res (columns_held a.columns) (length a.order.now) (length a.spare.now) (sym c.check.ensures ∙ c.in_ok-check.was) in
    let r = rw (← c.lent.ensures) at w.roomy in
    let g = c.group-made.ensures in
    let few = made_few c.lent.result c.voxels_of.result g.value in
    record {
      ranged = ranged c.lent.result c.voxels_of.result (columns_held a.columns) r g.value g.first_after g.count_after g.members_after;
      p_in_bounds = omega (arith, few, r);
      n_in_bounds = omega (arith, few, r);
      area_in_bounds = omega (arith, few, r);
      radius_in_bounds = omega (arith, few, r);
    }

pub returns : goal.returns
returns c =
    let a = c.args in
    let t = sym c.check.ensures ∙ c.in_ok-check.was in
    let w = accepted a.surfels.now a.cut.lo a.cut.hi a.cut.res (columns_held a.columns) (length a.order.now) (length a.spare.now) (sym c.check.ensures ∙ c.in_ok-check.was) in
    let h = rw (← c.lent.ensures, ← c.voxels_of.ensures) at w.held in
    let r = rw (← c.lent.ensures) at w.roomy in
    let o = open_done a.surfels.now a.cut.lo a.cut.hi a.cut.res (columns_held a.columns) (length a.order.now) (length a.spare.now) t in
    let g = c.group-made.ensures in
    let e = c.aggregate.ensures in
    let k = columns_made c.lent.result c.voxels_of.result (columns_held a.columns) r g.value g.first_after g.count_after g.members_after e.p_after e.n_after e.area_after e.radius_after in
    record {
      columns_value = answer_done a.surfels.now a.cut.lo a.cut.hi a.cut.res (columns_held a.columns) (length a.order.now) (length a.spare.now) t (rw (c.lent.ensures, c.voxels_of.ensures) at g.value) (rw (c.lent.ensures, c.voxels_of.ensures) at k);
      kept_from = rw (o, ← c.lent.ensures) (order_kept c.lent.result c.voxels_of.result h.resolved a.order.now c.sort.ensures.order_after);
      kept_from_2 = rw (o, ← c.lent.ensures) c.sort.ensures.kept_from;
    }
