-- `solve::rows::LitRows::ample_irr` meets its contract. The loop has stored the irr of i surfels from the front on and of i from the middle on. Assumes nothing.
use native.Mathlib.Omega.{arith}
use Rattle.solve.proofs.Fronts.{fronts_more, fronts_end}
use Rattle.solve.proofs.rows.LitRows.ample_irr.Goals as goal

pub loop-i-preserved : goal.loop-i-preserved
loop-i-preserved c =
    let two = c.two_rows-two.ensures in
    fronts_more _ _ _ _ c.loop-i.i c.loop-i.invariant (omega arith) (omega arith) c.requires two.first_value two.second_value c.put.ensures c.put-in-loop-i.ensures

pub returns : goal.returns
returns c =
    fronts_end _ _ _ _ c.loop-i.i c.loop-i.invariant (omega arith) (omega arith) c.requires
