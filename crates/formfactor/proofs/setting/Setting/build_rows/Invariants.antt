-- `formfactor::setting::Setting::build_rows` meets its contract. The loop has built i rows, all of which fitted. Assumes nothing.
use mathlib.Core.Path.{◌≡◌}
use lib.ListN.{drop}
use Rattle.formfactor.proofs.Rowwise.{SoFar}
use Rattle.formfactor.proofs.setting.Setting.build_rows.Given as goal

abbrev pub invariant-loop-i : goal.invariant-loop-i
invariant-loop-i l =
    SoFar l.self l.room l.initial.starts l.initial.link_cluster l.initial.link_weight l.starts l.link_cluster l.link_weight l.made l.i
    × (drop l.self.emitters.nc l.link ≡ drop l.self.emitters.nc l.initial.link) × (drop l.self.emitters.nc l.weight ≡ drop l.self.emitters.nc l.initial.weight)
