-- `solve::bouncing::Bouncing::update_rad` meets its contract. The loop has stored the rad of the first i surfels, and has the greatest step of it. Assumes nothing.
use mathlib.Core.Path.{◌≡◌}
use Rattle.vector.specs.Flat.{vec_at, written}
use Rattle.solve.specs.Bounce.{rad_of, greatest_step}
use Rattle.solve.proofs.bouncing.Bouncing.update_rad.Given as goal

abbrev pub invariant-loop-i : goal.invariant-loop-i
invariant-loop-i l = (l.rad ≡ written (λ k. rad_of l.self.room.now.direct l.self.room.now.albedo k (vec_at l.irr k)) l.i l.initial.rad)
    × (l.change ≡ greatest_step (vec_at l.initial.rad) (λ k. rad_of l.self.room.now.direct l.self.room.now.albedo k (vec_at l.irr k)) l.i)
