-- `solve::bouncing::Bouncing::update_power` meets its contract. The loop has stored the power of the first i surfels. Assumes nothing.
use mathlib.Core.Path.{◌≡◌}
use Rattle.vector.specs.Flat.{written}
use Rattle.solve.specs.Bounce.{member_light}
use Rattle.solve.proofs.bouncing.Bouncing.update_power.Given as goal

abbrev pub invariant-loop-i : goal.invariant-loop-i
invariant-loop-i l = l.power ≡ written (member_light l.self.room.now.area l.rad) l.i l.initial.power
