-- `clusters::grouping::group` meets its contract. Where a run begins, the groups of the smaller keys are stored. Assumes nothing.
use Rattle.std.proofs.Common.{◌≡◌, ◌-◌, ◌<◌, length, take, drop, refl, ap, ◌∙◌, arith, length-take, length-drop}
use lib.Seq.{sets}
use Rattle.clusters.specs.Grouping.{dropped}
use Rattle.clusters.proofs.Gathered.{numbers, part_below, part_none, part_all, part_dropped, part_kept}
use Rattle.clusters.proofs.Stored.{part_is}
use Rattle.clusters.proofs.grouping.group.Goals as goal

pub loop-at-init : goal.loop-at-init
loop-at-init c =
    record { part = part_none c.args.d.now.surfels c.args.d.now.voxels _ _ _; groups_few = omega arith; members_few = omega arith; at_within = omega arith }

pub run_end-end-requires-clause-numbers : goal.run_end-end-requires-clause-numbers
run_end-end-requires-clause-numbers c =
    let a = c.args in
    numbers a.d.now.surfels a.d.now.voxels a.d.now.held.resolved a.order.now a.first.now a.count.now a.members.now c.requires.sorted c.requires.first_in_bounds c.requires.count_in_bounds

pub sum_members-requires : goal.sum_members-requires
sum_members-requires c =
    let a = c.args in
    part_below a.d.now.surfels a.d.now.voxels a.d.now.held.resolved a.order.now a.first.now a.count.now a.members.now c.requires.sorted c.requires.first_in_bounds c.requires.count_in_bounds _ _ (omega (arith, c.run_end-end.ensures.past)) c.run_end-end.ensures.within

pub loop-at-preserved-then-not-sum_members : goal.loop-at-preserved-then-not-sum_members
unfolding dropped
loop-at-preserved-then-not-sum_members c =
    let a = c.args in
    let i = c.loop-at.invariant in
    let r = c.run_end-end.ensures in
    let e = part_is a.order.now c.loop-at.at c.run_end-end.result (omega (arith, r.past)) in
    let t = rw (c.sum_members.ensures, e) at c.if-not-sum_members.true in
    let n : length (take (c.run_end-end.result - c.loop-at.at) (drop c.loop-at.at a.order.now)) ≡ c.run_end-end.result - c.loop-at.at =
    omega (arith, length-take (c.run_end-end.result - c.loop-at.at) (drop c.loop-at.at a.order.now), length-drop c.loop-at.at a.order.now, r.within, c.requires.sorted.held) in
    let h : c.loop-at.at < a.d.now.surfels.n = omega (arith, c.len-n.ensures.value) in
    rw n
    (record {
      part = part_kept a.d.now.surfels a.d.now.voxels a.d.now.held.resolved a.order.now a.first.now a.count.now a.members.now c.requires.sorted c.requires.first_in_bounds c.requires.count_in_bounds _ i.part h r t refl refl
          (c.put_all.ensures ∙ ap (sets c.loop-at.members c.loop-at.w) e);
      groups_few = omega (arith, i.groups_few, r.past);
      members_few = omega (arith, i.members_few, r.past);
      at_within = omega (arith, r.within, c.len-n.ensures.value);
    })

pub loop-at-preserved : goal.loop-at-preserved
unfolding dropped
loop-at-preserved c =
    let a = c.args in
    let i = c.loop-at.invariant in
    let r = c.run_end-end.ensures in
    let e = part_is a.order.now c.loop-at.at c.run_end-end.result (omega (arith, r.past)) in
    let t = rw (c.sum_members.ensures, e) at c.if-not-sum_members.false in
    record {
      part = part_dropped a.d.now.surfels a.d.now.voxels a.d.now.held.resolved a.order.now a.first.now a.count.now a.members.now c.requires.sorted c.requires.first_in_bounds c.requires.count_in_bounds _ i.part (omega (arith, c.len-n.ensures.value)) r t;
      groups_few = omega (arith, r.past);
      members_few = omega (arith, r.past);
      at_within = omega (arith, r.within, c.len-n.ensures.value);
    }

pub returns : goal.returns
returns c =
    let a = c.args in
    let z = part_all a.d.now.surfels a.d.now.voxels a.d.now.held.resolved a.order.now a.first.now a.count.now a.members.now c.requires.sorted c.requires.first_in_bounds c.requires.count_in_bounds c.loop-at.invariant.part (omega (arith, c.loop-at-test.false, c.len-n.ensures.value)) in
    record { value = z.answer; first_after = z.firsts; count_after = z.counts; members_after = z.stored }
