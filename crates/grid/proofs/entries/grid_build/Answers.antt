-- `grid::entries::grid_build` meets its contract. A call that is not refused was lent what `build` needs. Assumes nothing.
use mathlib.Core.Path.{sym, ◌∙◌}
use Rattle.std.proofs.lemmas.Result.{err_from_is_err_and}
use Rattle.grid.specs.Answers.{grid_build_answer}
use Rattle.grid.proofs.Built.{build_lent}
use Rattle.grid.proofs.entries.grid_build.Goals as goal

pub returns-in_err-check_build : goal.returns-in_err-check_build
unfolding grid_build_answer
returns-in_err-check_build c =
    let p = err_from_is_err_and c.from_residual.result c.from_residual.ensures.1 in
    rw (p.1, p.2, ← c.check_build.ensures, c.in_err-check_build.was)

pub build-requires : goal.build-requires
build-requires c =
    let a = c.args in
    rw c.frame-frame.ensures.dims (build_lent _ _ a.space.lo a.space.hi a.space.cell a.starts.now a.items.now (sym c.check_build.ensures ∙ c.in_ok-check_build.was))

pub returns : goal.returns
unfolding grid_build_answer
returns c =
    rw (← c.check_build.ensures, c.in_ok-check_build.was, c.build.ensures.starts_after, c.build.ensures.after, c.frame-frame.ensures.corner, c.frame-frame.ensures.inverse, c.frame-frame.ensures.dims)
