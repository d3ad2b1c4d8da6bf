-- `solve::rows::LitRows::faint_irr` meets its contract. The loop has stored the irr of the first i surfels. Assumes nothing.
use native.Mathlib.Omega.{arith}
use Rattle.vector.proofs.Replaced.{written_none, written_put}
use Rattle.solve.specs.Held.{triple}
use Rattle.solve.specs.Lit.{rows_lit}
use Rattle.solve.proofs.Lighted.{row_light_by}
use Rattle.solve.proofs.rows.LitRows.faint_irr.Goals as goal

pub loop-i-init : goal.loop-i-init
loop-i-init c = written_none _ _

pub loop-i-preserved : goal.loop-i-preserved
loop-i-preserved c =
    let v = row_light_by (rows_lit c.args.self.now) (triple c.args.self.now.light.now) c.loop-i.i c.wide-from.ensures c.wide.ensures c.faint_row.ensures in
    written_put _ c.loop-i.i _ c.loop-i.invariant (omega (arith, c.requires)) v c.put.ensures
