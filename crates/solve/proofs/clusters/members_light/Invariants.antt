-- `solve::clusters::members_light` meets its contract. The loop has summed the power of the members before its place. Assumes nothing.
use mathlib.Core.Path.{◌≡◌}
use Rattle.vector.specs.Fold.{total}
use Rattle.accept.specs.Tables.{number_at}
use Rattle.solve.specs.Held.{triple}
use Rattle.solve.proofs.clusters.members_light.Given as goal

abbrev pub invariant-loop-i : goal.invariant-loop-i
invariant-loop-i l = l.sum ≡ total (λ k. triple l.powers (number_at l.members k)) l.i-index
