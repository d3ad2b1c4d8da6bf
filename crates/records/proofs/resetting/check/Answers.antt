-- `records::resetting::check` meets its contract. A count over the most surfels refuses a reset of columns too. Assumes nothing.
use mathlib.Core.Path.{sym, ◌∙◌}
use Rattle.std.proofs.lemmas.Result.{err_from_is_err_and}
use Rattle.records.specs.Needs.{check_for}
use Rattle.records.proofs.Columned.{refused_first}
use Rattle.records.proofs.resetting.check.Goals as goal

pub returns-in_err-require : goal.returns-in_err-require
returns-in_err-require c =
    let p = err_from_is_err_and c.from_residual.result c.from_residual.ensures.1 in
    rw (p.1, p.2) (refused_first _ _ (sym c.require.ensures ∙ c.in_err-require.was))

pub returns : goal.returns
unfolding check_for
returns c = c.check.ensures
