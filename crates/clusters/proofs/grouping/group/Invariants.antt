-- `clusters::grouping::group` meets its contract. Where a run begins, the groups of the smaller keys are stored. Assumes nothing.
use Rattle.std.proofs.Common.{◌-◌, ◌≤◌}
use Rattle.clusters.proofs.Gathered.{Part}
use Rattle.clusters.proofs.grouping.group.Given as goal

abbrev pub invariant-loop-at : goal.invariant-loop-at
invariant-loop-at l = record {
  part : Part l.d.surfels l.d.voxels l.initial.first l.initial.count l.initial.members l.first l.count l.members l.at l.k l.w;
  groups_few : l.k ≤ l.at;
  members_few : l.w ≤ l.at;
  at_within : l.at ≤ l.n;
}

abbrev pub decreases-loop-at : goal.decreases-loop-at
decreases-loop-at l = l.n - l.at
