-- `records::resetting::reset_records` meets its contract. A call that is refused leaves the records, another sets each. Assumes nothing.
use mathlib.Core.Path.{◌≡◌, sym, ◌∙◌}
use Prim.Native.Nat.{◌<◌}
use borrow.Author.Rules.{rules}
use lib.ListN.{length}
use Rattle.std.proofs.lemmas.Result.{err_from_is_err_and}
use Rattle.records.proofs.Columned.{set_none, set_more, set_refused, set_done}
use Rattle.records.proofs.resetting.reset_records.Goals as goal

pub returns-in_err-check : goal.returns-in_err-check
returns-in_err-check c =
    let p = err_from_is_err_and c.from_residual.result c.from_residual.ensures.1 in
    rw (p.1, p.2) (set_refused _ _ (sym c.check.ensures ∙ c.in_err-check.was))

pub loop-i-init : goal.loop-i-init
loop-i-init c = set_none _ _

pub loop-i-preserved : goal.loop-i-preserved
loop-i-preserved c =
    let few : c.loop-i.i < length c.args.records.now = search rules in
    rw (c.loop-i.invariant, c.light_at.ensures) (set_more _ _ _ few)

pub returns : goal.returns
returns c =
    let e : c.loop-i.i ≡ length c.args.records.now = search rules in
    rw (c.loop-i.invariant, e) (set_done _ _ (sym c.check.ensures ∙ c.in_ok-check.was))
