-- `formfactor::setting::Setting::raw_links` meets its contract. The loop has made the links to the first c clusters. Assumes nothing.
use mathlib.Core.Path.{◌≡◌, ap, ◌∙◌}
use Prim.Native.Nat.{◌<◌}
use native.Mathlib.Omega.{arith}
use Rattle.formfactor.specs.Lent.{Emitters, Setting, cluster_at}
use Rattle.links.specs.Pairs.{pair_of}
use Rattle.links.proofs.Faced.{pair_evals}
use Rattle.formfactor.proofs.Linked.{told_few, told_none, told_more}
use Rattle.formfactor.proofs.setting.Setting.raw_links.Goals as goal

pub loop-c-init : goal.loop-c-init
loop-c-init c =
    let t = c.args.self.now in
    let d = c.default-made.ensures in
    told_none t.scene t.diag c.args.a (cluster_at t.emitters) c.args.link.now c.args.weight.now d.0 d.1.0 d.1.1

pub put_pair-made-requires-clause-fact : goal.put_pair-made-requires-clause-fact
put_pair-made-requires-clause-fact c =
    let t = c.args.self.now in
    let g = rw c.self.view_is at c.self.invariant in
    let nc = ap (λ (e : Emitters). e.nc) c.emitters.view_is ∙ ap (λ (y : Setting). y.emitters.nc) c.self.view_is in
    let f = told_few t.scene t.diag c.args.a (cluster_at t.emitters) c.loop-c.c c.loop-c.invariant.0 in
    let h : c.loop-c.c < t.emitters.nc = omega (arith, c.loop-c-test.true, nc) in
    record { few = omega (arith, h, g.emitters.few); before = f.0; evals_few = f.1; links = omega (arith, h, c.requires.links); weights = omega (arith, h, c.requires.weights) }

pub put_pair-made-requires-clause-evals_bound : goal.put_pair-made-requires-clause-evals_bound
put_pair-made-requires-clause-evals_bound c =
    rw c.pair_of-pair.ensures (pair_evals _ _ _ _)

pub loop-c-preserved : goal.loop-c-preserved
loop-c-preserved c =
    let a = c.args in
    let t = a.self.now in
    let u = c.put_pair-made.ensures in
    let z = c.self.inside in
    let p = c.pair_of-pair.ensures ∙ ap (pair_of z.scene.now z.diag a.a) c.cluster_at.ensures ∙ ap (λ (y : Setting). pair_of y.scene y.diag a.a (cluster_at y.emitters c.loop-c.c)) c.self.view_is in
    told_more t.scene t.diag a.a (cluster_at t.emitters) c.loop-c.c a.link.now a.weight.now c.loop-c.invariant.0 c.loop-c.invariant.1 c.loop-c.invariant.2 p u.value u.link_after u.weight_after

pub returns : goal.returns
returns c =
    let t = c.args.self.now in
    let nc = ap (λ (e : Emitters). e.nc) c.emitters.view_is ∙ ap (λ (y : Setting). y.emitters.nc) c.self.view_is in
    let n : c.loop-c.c ≡ t.emitters.nc = omega (arith, c.loop-c-test.false, nc) in
    let f = told_few t.scene t.diag c.args.a (cluster_at t.emitters) c.loop-c.c c.loop-c.invariant.0 in
    let m = c.loop-c.invariant in
    record { links_standing = record { told = rw n at m.0; clusters = rw n at m.1; weights = rw n at m.2 }; links_le_nc = rw n at f.0; evals_bound = rw n at f.1 }
