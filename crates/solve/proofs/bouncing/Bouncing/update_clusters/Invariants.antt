-- `solve::bouncing::Bouncing::update_clusters` meets its contract. The loop has stored the light of the first c clusters. Assumes nothing.
use mathlib.Core.Path.{◌≡◌}
use Rattle.vector.specs.Flat.{vec_at, written}
use Rattle.solve.specs.Held.{cluster_light_of}
use Rattle.solve.proofs.bouncing.Bouncing.update_clusters.Given as goal

abbrev pub invariant-loop-c : goal.invariant-loop-c
invariant-loop-c l = l.light ≡ written (cluster_light_of l.self.room.now.clusters (vec_at l.power)) l.c l.initial.light
