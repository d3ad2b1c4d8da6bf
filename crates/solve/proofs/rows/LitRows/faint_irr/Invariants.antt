-- `solve::rows::LitRows::faint_irr` meets its contract. The loop has stored the irr of the first i surfels. Assumes nothing.
use mathlib.Core.Path.{◌≡◌}
use Rattle.vector.specs.Flat.{written}
use Rattle.solve.specs.Held.{triple}
use Rattle.solve.specs.Lit.{rows_lit}
use Rattle.solve.specs.Bounce.{row_light}
use Rattle.solve.proofs.rows.LitRows.faint_irr.Given as goal

abbrev pub invariant-loop-i : goal.invariant-loop-i
invariant-loop-i l = l.irr ≡ written (row_light (rows_lit l.self) (triple l.self.light.now)) l.i l.initial.irr
