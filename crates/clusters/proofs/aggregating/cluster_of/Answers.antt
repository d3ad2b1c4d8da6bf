-- `clusters::aggregating::cluster_of` meets its contract. The lists give the members of each cluster. Assumes nothing.
use Rattle.std.proofs.Common.{◌+◌, arith}
use Rattle.clusters.proofs.Stored.{part_is}
use Rattle.clusters.proofs.aggregating.cluster_of.Goals as goal

pub sum_members-requires : goal.sum_members-requires
sum_members-requires c =
    let e = part_is c.args.groups.now.member.now c.wide-from.result (c.wide-from.result + c.wide.result) (omega arith) in
    rw (e, c.wide.ensures, c.wide-from.ensures) (c.requires.ranged.below c.args.k c.requires.k_lt_made)

pub returns : goal.returns
returns c =
    let e = part_is c.args.groups.now.member.now c.wide-from.result (c.wide-from.result + c.wide.result) (omega arith) in
    rw (c.cluster_from.ensures, c.sum_members.ensures, e, c.wide.ensures, c.wide-from.ensures)
