-- `formfactor::setting::Setting::make_row` meets its contract. Raw links, then their target, then their scaling. Assumes nothing.
use mathlib.Core.Path.{ap, ◌∙◌}
use Prim.Native.Nat.{◌≤◌}
use native.Mathlib.Omega.{arith}
use borrow.Author.Rules.{rules}
use lib.ListN.{length}
use Rattle.scene.proofs.Evals.{closure_evals}
use Rattle.links.specs.Scaling.{target_of}
use Rattle.links.proofs.Scaled.{calibrated_front}
use Rattle.formfactor.specs.Lent.{Setting, cluster_at}
use Rattle.formfactor.specs.Linking.{openness, row_of}
use Rattle.formfactor.proofs.Linked.{row_told}
use Rattle.formfactor.proofs.setting.Setting.make_row.Goals as goal

pub returns : goal.returns
unfolding row_of openness
returns c =
    let a = c.args in
    let t = a.self.now in
    let r = c.raw_links-raw in
    let h = c.hemisphere_closure-above.ensures ∙ ap (λ (y : Setting). openness y.scene y.diag a.a) c.self.view_is in
    let k = c.calibrate-sum in
    let g = c.target_of.ensures in
    let few : c.hemisphere_closure-above.result.evals ≤ 2112 = rw c.hemisphere_closure-above.ensures (closure_evals _ _ _ _) in
    let few_links : r.result.links ≤ length r.new.weight = search rules in
    let front = calibrated_front (target_of c.hemisphere_closure-above.result.sky) r.result.sum r.new.weight r.result.links few_links (rw g at k.ensures.row_after) in
    let w = row_told t.scene t.diag a.a (cluster_at t.emitters) t.emitters.nc a.weight.now c.requires.weights r.ensures.links_standing.told r.ensures.links_standing.weights h (rw g at k.ensures.value) front in
    record { row_standing = record { told = rw (c.min.ensures, c.wide.ensures) w.0; clusters = r.ensures.links_standing.clusters; weights = w.1 }; links_le_nc = r.ensures.links_le_nc; evals_bound = omega (arith, few, c.wide.ensures, r.ensures.evals_bound) }
