-- `reset::resetting::reset` meets its contract. A call that is not refused stores the light in lists of its length. Assumes nothing.
use mathlib.Core.Path.{sym, ◌∙◌}
use Rattle.std.proofs.lemmas.Result.{err_from_is_err_and}
use Rattle.vector.proofs.Items.{sets_all}
use Rattle.reset.specs.Resetting.{reset_answer}
use Rattle.reset.proofs.Stored.{reset_lengths}
use Rattle.reset.proofs.resetting.reset.Goals as goal

pub returns-in_err-check : goal.returns-in_err-check
unfolding reset_answer
returns-in_err-check c =
    let p = err_from_is_err_and c.from_residual.result c.from_residual.ensures.1 in
    rw (p.1, p.2, sym c.check.ensures ∙ c.in_err-check.was)

pub returns : goal.returns
unfolding reset_answer
returns c =
    let l = reset_lengths _ _ _ _ (sym c.check.ensures ∙ c.in_ok-check.was) in
    rw (sym c.check.ensures ∙ c.in_ok-check.was, c.put_all.ensures, c.put_all-2.ensures, sets_all _ _ l.0, sets_all _ _ l.2, c.fill.ensures.after (λ y e. e))
