-- `solve::running::run` meets its contract. The bounces made so far, with what is left of them, are the whole run. Assumes nothing.
use Rattle.transfer.specs.Room.{light_of}
use Rattle.solve.proofs.Going.{Going}
use Rattle.solve.proofs.running.run.Given as goal

abbrev pub invariant-loop-bounces : goal.invariant-loop-bounces
invariant-loop-bounces l = Going l.fn.room l.limit l.most (light_of l.initial.irr l.initial.rad) l.initial.light l.bounces l.change (light_of l.irr l.rad) l.light
