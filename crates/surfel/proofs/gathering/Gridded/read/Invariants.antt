-- `surfel::gathering::Gridded::read` meets its contract. What the loop has weighed, and then the rows that are left, is the whole. Assumes nothing.
use mathlib.Core.Path.{◌≡◌}
use Rattle.std.specs.List.{All, concat}
use Rattle.surfel.specs.Gathering.{weigh_all}
use Rattle.surfel.specs.Needs.{Named}
use Rattle.surfel.specs.Weighing.{nothing}
use Rattle.grid.specs.Visiting.{visited}
use Rattle.surfel.proofs.gathering.Gridded.read.Given as goal

abbrev pub invariant-loop-row : goal.invariant-loop-row
invariant-loop-row l =
    (weigh_all l.self.surfels l.probe l.sum (concat l.row-iterator) ≡ weigh_all l.self.surfels l.probe nothing (visited l.self.grid l.fn.at 1))
    × All (Named l.self.surfels) (concat l.row-iterator)
