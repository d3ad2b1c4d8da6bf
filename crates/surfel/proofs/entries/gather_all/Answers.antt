-- `surfel::entries::gather_all` meets its contract. A call that is not refused has slices with room for each probe's reading. Assumes nothing.
use mathlib.Core.Path.{sym, ◌∙◌}
use lib.ListN.{length}
use Rattle.std.proofs.lemmas.Result.{err_from_is_err_and}
use Rattle.grid.proofs.Handed.{handed, turned_away}
use Rattle.surfel.specs.Answers.{gather_all_answer}
use Rattle.surfel.specs.Gathering.{gridded_of}
use Rattle.surfel.proofs.Acceptance.{all_accepted}
use Rattle.surfel.proofs.entries.gather_all.Goals as goal

pub returns-in_err-gridded : goal.returns-in_err-gridded
unfolding gather_all_answer
returns-in_err-gridded c =
    let a = c.args in
    let e = rw c.own-own.ensures at c.check.ensures in
    let p = err_from_is_err_and c.from_residual.result c.from_residual.ensures.1 in
    rw (p.1, p.2, turned_away (gridded_of a.grid.now a.surfels.now) _ (sym e ∙ c.in_err-gridded.was))

pub read_each-requires : goal.read_each-requires
read_each-requires c =
    let a = c.args in
    let e = rw c.own-own.ensures at c.check.ensures in
    let z = handed (gridded_of a.grid.now a.surfels.now) _ (sym e ∙ c.in_ok-gridded.was) in
    let w = all_accepted a.grid.now a.surfels.now a.probes.now (length a.seen.now) (length a.light.now) z.0 in
    record { probes_in_bounds = w.1; probes_in_bounds_2 = w.2 }

pub returns : goal.returns
unfolding gather_all_answer
returns c =
    let a = c.args in
    let e = rw c.own-own.ensures at c.check.ensures in
    let z = handed (gridded_of a.grid.now a.surfels.now) _ (sym e ∙ c.in_ok-gridded.was) in
    rw (c.read_each.ensures.seen_after, c.read_each.ensures.light_after, z.1, z.0)
