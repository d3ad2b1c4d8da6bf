-- `solve::rows::LitRows::ample_irr` meets its contract. The loop has stored the irr of i surfels from the front on and of i from the middle on. Assumes nothing.
use Rattle.solve.specs.Held.{triple}
use Rattle.solve.specs.Lit.{rows_lit}
use Rattle.solve.specs.Bounce.{row_light}
use Rattle.solve.proofs.Fronts.{Fronts}
use Rattle.solve.proofs.rows.LitRows.ample_irr.Given as goal

abbrev pub invariant-loop-i : goal.invariant-loop-i
invariant-loop-i l = Fronts (row_light (rows_lit l.self) (triple l.self.light.now)) l.self.n l.middle l.i l.initial.irr l.irr
