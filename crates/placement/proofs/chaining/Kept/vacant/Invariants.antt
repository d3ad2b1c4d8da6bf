-- `placement::chaining::Kept::vacant` meets its contract. The search stands at a point of the cell, and what is left of its chain decides the answer. Assumes nothing.
use Rattle.vector.specs.Flat.{vec_at}
use Rattle.placement.specs.Kept.{closer}
use Rattle.placement.specs.Chains.{key_of}
use Rattle.placement.proofs.Chained.{Search}
use Rattle.placement.proofs.chaining.Kept.vacant.Given as goal

abbrev pub invariant-loop-j : goal.invariant-loop-j
invariant-loop-j l = Search (key_of l.self.s (vec_at l.self.p.now)) (λ j. closer l.self.s l.at (vec_at l.self.p.now j)) l.c l.self.count l.link

abbrev pub decreases-loop-j : goal.decreases-loop-j
decreases-loop-j l = l.link
