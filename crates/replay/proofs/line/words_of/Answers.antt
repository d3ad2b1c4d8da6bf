-- `replay::line::words_of` meets its contract. Assumes nothing.
use Rattle.std.proofs.Common.{sym, ◌∙◌}
use Rattle.replay.proofs.Read.{last_is}
use Rattle.replay.proofs.line.words_of.Goals as goal

pub returns : goal.returns
returns c =
    let cut = c.in_ok-strip_suffix.ensures.cases in
    rw (sym (last_is c.args.s.now) ∙ cut.0, ← cut.1) c.words_in.ensures

pub returns-in_err-strip_suffix : goal.returns-in_err-strip_suffix
returns-in_err-strip_suffix c =
    rw (sym (last_is c.args.s.now) ∙ c.in_err-strip_suffix.ensures.cases) c.from_residual.ensures
