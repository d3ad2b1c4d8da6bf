-- `surfel::entries::gather` meets its contract. Each way out is a case of the definition. Assumes nothing.
use mathlib.Core.Path.{sym, ◌∙◌}
use Rattle.std.proofs.lemmas.Result.{err_from_is_err_and}
use Rattle.grid.proofs.Handed.{handed, turned_away}
use Rattle.surfel.specs.Answers.{gather_answer}
use Rattle.surfel.specs.Gathering.{gridded_of}
use Rattle.surfel.proofs.entries.gather.Goals as goal

pub returns-in_err-gridded : goal.returns-in_err-gridded
unfolding gather_answer
returns-in_err-gridded c =
    let a = c.args in
    let e = rw (c.point-2.ensures, c.point.ensures, c.radius_within.ensures) at c.check.ensures in
    let p = err_from_is_err_and c.from_residual.result c.from_residual.ensures.1 in
    rw (p.1, p.2, turned_away (gridded_of a.grid.now a.surfels.now) _ (sym e ∙ c.in_err-gridded.was))

pub returns : goal.returns
unfolding gather_answer
returns c =
    let a = c.args in
    let e = rw (c.point-2.ensures, c.point.ensures, c.radius_within.ensures) at c.check.ensures in
    let z = handed (gridded_of a.grid.now a.surfels.now) _ (sym e ∙ c.in_ok-gridded.was) in
    rw (c.read.ensures, z.1, z.0)
