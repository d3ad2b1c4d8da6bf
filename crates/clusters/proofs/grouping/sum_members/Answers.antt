-- `clusters::grouping::sum_members` meets its contract. The loop has the sums of the members before i. Assumes nothing.
use Rattle.std.proofs.Common.{◌≡◌, length, arith}
use Rattle.vector.proofs.Sums.{fold_none, fold_more}
use Rattle.clusters.specs.Grouping.{summed}
use Rattle.clusters.proofs.grouping.sum_members.Goals as goal

pub loop-i-init : goal.loop-i-init
loop-i-init c = fold_none _ _ _ (rw (c.zero-2.ensures, c.zero.ensures))

pub loop-i-preserved : goal.loop-i-preserved
loop-i-preserved c = fold_more _ _ _ _ c.loop-i.invariant c.wide.ensures c.add_member-t.ensures

pub returns : goal.returns
unfolding summed
returns c =
    let e : c.loop-i.i-index ≡ length c.args.members.now = omega arith in
    rw e at c.loop-i.invariant
