-- `formfactor::setting::Setting::raw_links` meets its contract. The loop has made the links to the first c clusters. Assumes nothing.
use mathlib.Core.Path.{◌≡◌}
use lib.Seq.{sets}
use Rattle.formfactor.specs.Lent.{cluster_at}
use Rattle.formfactor.specs.Linking.{raw_links}
use Rattle.formfactor.specs.Needs.{links_made}
use Rattle.formfactor.proofs.setting.Setting.raw_links.Given as goal

abbrev pub invariant-loop-c : goal.invariant-loop-c
invariant-loop-c l =
    let ls = raw_links l.self.scene l.self.diag l.a (cluster_at l.self.emitters) l.c in
    (l.made ≡ links_made ls) × (l.link ≡ sets l.initial.link 0 ls.cluster) × (l.weight ≡ sets l.initial.weight 0 ls.weight)
