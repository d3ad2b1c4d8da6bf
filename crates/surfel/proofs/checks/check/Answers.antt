-- `surfel::checks::check` meets its contract. A call that is not refused has tables that are accepted. Assumes nothing.
use mathlib.Core.Path.{sym, ◌∙◌}
use borrow.Author.Rules.{rules}
use Rattle.grid.proofs.Handed.{handed}
use Rattle.surfel.specs.Checks.{check}
use Rattle.surfel.proofs.Acceptance.{answered_accepted}
use Rattle.surfel.proofs.checks.check.Goals as goal

pub invariant_of-result : goal.invariant_of-result
unfolding check
invariant_of-result c =
    let a = c.args in
    let e = rw (← c.grid.view_is, c.points_within.ensures, c.columns_hold.ensures) at c.check.ensures in
    let z = handed _ _ (sym e ∙ c.in_ok-grid.was) in
    record {
      held = rw z.1 (answered_accepted _ a.surfels.now a.own z.0);
      p_cut = search rules;
      normals_cut = search rules;
      irr_cut = search rules;
    }
