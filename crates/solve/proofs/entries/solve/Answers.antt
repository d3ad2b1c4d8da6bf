-- `solve::entries::solve` meets its contract. A call that is not refused runs in a room that is accepted. Assumes nothing.
use mathlib.Core.Path.{sym, ◌∙◌}
use Rattle.std.proofs.lemmas.Result.{err_from_is_err_and}
use Rattle.solve.specs.Answers.{solve_answer}
use Rattle.transfer.proofs.Acceptance.{accepted}
use Rattle.solve.proofs.Answering.{solve_done}
use Rattle.solve.proofs.entries.solve.Goals as goal

pub run-requires : goal.run-requires
run-requires c = accepted _ c.args.limit _ _ _ (sym c.check.ensures ∙ c.in_ok-check.was)

pub returns : goal.returns
returns c = solve_done _ _ _ _ _ (sym c.check.ensures ∙ c.in_ok-check.was) c.run.ensures.rad_value c.run.ensures.light_after

pub returns-in_err-check : goal.returns-in_err-check
unfolding solve_answer
returns-in_err-check c =
    let p = err_from_is_err_and c.from_residual.result c.from_residual.ensures.1 in
    rw (p.1, p.2, sym c.check.ensures ∙ c.in_err-check.was)
