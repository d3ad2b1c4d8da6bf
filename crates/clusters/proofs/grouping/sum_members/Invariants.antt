-- `clusters::grouping::sum_members` meets its contract. The loop has the sums of the members before i. Assumes nothing.
use Rattle.std.proofs.Common.{◌≡◌}
use Rattle.float.specs.Arithmetic.{0f}
use Rattle.vector.specs.Fold.{fold}
use Rattle.vector.specs.Vector.{zero_vec}
use Rattle.accept.specs.Tables.{number_at}
use Rattle.clusters.specs.declared.Sums.{Sums}
use Rattle.clusters.specs.Grouping.{added}
use Rattle.clusters.proofs.grouping.sum_members.Given as goal

abbrev pub none : Sums
none = record { p = zero_vec; n = zero_vec; area = 0f }

abbrev pub invariant-loop-i : goal.invariant-loop-i
invariant-loop-i l = l.t ≡ fold (added l.d.surfels) none (number_at l.members) l.i-index
