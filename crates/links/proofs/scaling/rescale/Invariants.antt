-- `links::scaling::rescale` meets its contract. The loop has scaled the weights before its place. Assumes nothing.
use mathlib.Core.List.{◌++◌}
use mathlib.Core.Path.{◌≡◌}
use lib.ListN.{take, drop}
use Rattle.links.specs.Scaling.{scaled_by}
use Rattle.links.proofs.scaling.rescale.Given as goal

abbrev pub invariant-loop-w : goal.invariant-loop-w
invariant-loop-w l = l.row ≡ scaled_by l.scale (take l.w-index l.initial.row) ++ drop l.w-index l.initial.row
