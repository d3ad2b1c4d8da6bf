-- `surfel::gathering::Gridded::read_each` meets its contract. The loop has read and stored the first i probes. Assumes nothing.
use mathlib.Core.Path.{◌≡◌}
use lib.ListN.{length}
use Rattle.vector.specs.Flat.{filled, written}
use Rattle.surfel.specs.Answers.{seen_number, seen_light, reading_at}
use Rattle.surfel.proofs.gathering.Gridded.read_each.Given as goal

abbrev pub invariant-loop-i : goal.invariant-loop-i
invariant-loop-i l =
    let reading = reading_at l.self.grid l.self.surfels l.probes in
    (l.seen ≡ filled (λ j. seen_number (reading j)) l.i l.initial.seen)
    × (l.light ≡ written (λ j. seen_light (reading j)) l.i l.initial.light)
    × (length l.seen ≡ length l.initial.seen)
    × (length l.light ≡ length l.initial.light)
