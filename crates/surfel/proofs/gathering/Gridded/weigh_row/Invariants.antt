-- `surfel::gathering::Gridded::weigh_row` meets its contract. What the loop has weighed, and then the numbers that are left, is the whole. Assumes nothing.
use lib.ListN.{drop}
use mathlib.Core.Path.{◌≡◌}
use Rattle.surfel.specs.Gathering.{weigh_all}
use Rattle.surfel.proofs.gathering.Gridded.weigh_row.Given as goal

abbrev pub invariant-loop-number : goal.invariant-loop-number
invariant-loop-number l = weigh_all l.self.surfels l.probe l.sum (drop l.number-index l.row) ≡ weigh_all l.self.surfels l.probe l.fn.before l.row
