-- `links::scaling::rescale` meets its contract. The loop has scaled the weights before its place. Assumes nothing.
use Rattle.std.proofs.lemmas.List.{get_or_default}
use Rattle.std.proofs.lemmas.List.Edits.{map_over_more}
use native.Mathlib.Omega.{arith}
use lib.Ieee.{Float, nan}
use lib.ListN.{get_or}
use Rattle.float.specs.Arithmetic.{◌*f◌}
use Rattle.links.specs.Scaling.{scaled_by}
use Rattle.links.proofs.scaling.rescale.Goals as goal

pub loop-w-preserved : goal.loop-w-preserved
unfolding scaled_by
loop-w-preserved c =
    let row = c.loop-w.row in
    let i = c.loop-w.w-index in
    map_over_more (λ (w : Float). w *f c.args.scale) c.args.row.now row i (get_or row i nan) (omega arith) c.loop-w.invariant
    (get_or_default row i nan (get_or row i nan) (omega arith))
