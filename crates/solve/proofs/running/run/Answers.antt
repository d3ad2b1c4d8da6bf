-- `solve::running::run` meets its contract. The bounces made so far, with what is left of them, are the whole run. Assumes nothing.
use mathlib.Core.Path.{◌≡◌, sym, ◌∙◌}
use native.Mathlib.Omega.{arith}
use Rattle.solve.proofs.Going.{going_without, going_with, going_stopped, going_more, going_ended}
use Rattle.solve.proofs.running.run.Goals as goal
use Rattle.solve.proofs.running.run.Goals.{then-room-eq0, else-room-eq0}

pub loop-bounces-init : goal.loop-bounces-init
loop-bounces-init c =
    let ok = c.requires in
    elim c.if-room-eq0.branch [
      | then-room-eq0 w ↦ going_without ok (rw (← c.room.view_is, ← c.room-inside.view_is) w.if-room-eq0.true) w.most-is
      | else-room-eq0 w ↦ going_with ok (rw (← c.room.view_is, ← c.room-inside.view_is) w.if-room-eq0.false) w.most-is
    ]

pub returns-then-stopped-clause-rad_value : goal.returns-then-stopped-clause-rad_value
returns-then-stopped-clause-rad_value c =
    going_stopped c.loop-bounces.invariant (omega arith) (sym c.stopped.ensures ∙ c.if-stopped.true)

pub loop-bounces-preserved : goal.loop-bounces-preserved
loop-bounces-preserved c =
    let e = c.bounce-change.ensures in
    going_more c.loop-bounces.invariant (omega arith) (sym c.stopped.ensures ∙ c.if-stopped.false) e.rad_value e.value e.light_after

pub returns-clause-rad_value : goal.returns-clause-rad_value
returns-clause-rad_value c =
    let e : c.loop-bounces.bounces ≡ c.if-room-eq0.most = omega arith in
    rw e at (going_ended c.loop-bounces.invariant c.loop-bounces-test.false)
