-- `formfactor::entries::build` meets its contract. A call that is not refused has its columns and its scratch, and builds its rows in them. Assumes nothing.
use mathlib.Core.Path.{sym, ap, ◌∙◌}
use lib.ListN.{length}
use Rattle.std.proofs.lemmas.Result.{err_from_is_err_and}
use Rattle.vector.specs.Vector.{length_of}
use Rattle.formfactor.specs.Lent.{diagonal, setting_with}
use Rattle.formfactor.proofs.Refusing.{held, when_refused, when_built}
use Rattle.formfactor.proofs.entries.build.Goals as goal

pub returns-in_err-check-clause-link_weight_after : goal.returns-in_err-check-clause-link_weight_after
returns-in_err-check-clause-link_weight_after c =
    let a = c.args in
    let t = setting_with a.scene.now (diagonal a.lo a.hi) a.surfels.now a.emitters.now in
    let p = err_from_is_err_and c.from_residual.result c.from_residual.ensures.1 in
    rw (p.1, p.2) (when_refused a.lo a.hi t a.starts.now a.link_cluster.now a.link_weight.now (length a.link.now) (length a.weight.now) (sym c.in_err-check.ensures))

pub invariant_of-setting : goal.invariant_of-setting
unfolding diagonal
invariant_of-setting c =
    let a = c.args in
    let t = setting_with a.scene.now (diagonal a.lo a.hi) a.surfels.now a.emitters.now in
    let d = c.length.ensures ∙ ap length_of c.minus.ensures in
    rw d (held a.lo a.hi t a.starts.now a.link.now a.weight.now (sym c.in_ok-check.ensures)).0

pub build_rows-requires : goal.build_rows-requires
build_rows-requires c =
    let a = c.args in
    let t = setting_with a.scene.now (diagonal a.lo a.hi) a.surfels.now a.emitters.now in
    let h = held a.lo a.hi t a.starts.now a.link.now a.weight.now (sym c.in_ok-check.ensures) in
    record { started = h.1; scratch_held = h.2 }

pub returns-clause-link_weight_after : goal.returns-clause-link_weight_after
unfolding diagonal
returns-clause-link_weight_after c =
    let a = c.args in
    let t = setting_with a.scene.now (diagonal a.lo a.hi) a.surfels.now a.emitters.now in
    let d = c.length.ensures ∙ ap length_of c.minus.ensures in
    (rw d at c.build_rows.ensures.link_weight_after) ∙ (when_built a.lo a.hi t a.starts.now a.link_cluster.now a.link_weight.now (length a.link.now) (length a.weight.now) (sym c.in_ok-check.ensures)).0

pub returns-clause-kept_from : goal.returns-clause-kept_from
returns-clause-kept_from c =
    let a = c.args in
    let t = setting_with a.scene.now (diagonal a.lo a.hi) a.surfels.now a.emitters.now in
    rw (when_built a.lo a.hi t a.starts.now a.link_cluster.now a.link_weight.now (length a.link.now) (length a.weight.now) (sym c.in_ok-check.ensures)).1 c.build_rows.ensures.kept_from

pub returns-clause-kept_from_2 : goal.returns-clause-kept_from_2
returns-clause-kept_from_2 c =
    let a = c.args in
    let t = setting_with a.scene.now (diagonal a.lo a.hi) a.surfels.now a.emitters.now in
    rw (when_built a.lo a.hi t a.starts.now a.link_cluster.now a.link_weight.now (length a.link.now) (length a.weight.now) (sym c.in_ok-check.ensures)).1 c.build_rows.ensures.kept_from_2
