-- `grid::listing::count_layer` meets its contract. The loop has counted the numbers of the first y rows. Assumes nothing.
use mathlib.Core.Path.{◌≡◌}
use Prim.Native.Nat.{◌*◌, ◌≤◌}
use lib.ListN.{length}
use Rattle.vector.specs.Flat.{rows}
use Rattle.grid.specs.Rows.{row_listed}
use Rattle.grid.proofs.listing.count_layer.Given as goal

abbrev pub invariant-loop-y : goal.invariant-loop-y
invariant-loop-y l = (l.y ≤ l.b.rows) × (l.count ≡ length (rows (row_listed l.starts l.items l.b l.z) l.y)) × (l.count ≤ l.y * 400000)
