-- `placement::placing::place` meets its contract. The list has the points kept of the seeds tried so far, and they are chained. Assumes nothing.
use Rattle.placement.proofs.Seeded.{SoFar}
use Rattle.placement.proofs.placing.place.Given as goal

abbrev pub invariant-loop-i : goal.invariant-loop-i
invariant-loop-i l = SoFar l.request.scene l.s l.request.target l.initial.p l.initial.head l.initial.next l.i l.count l.p l.head l.next
