-- `grid::listing::list_layer` meets its contract. The loop has stored the numbers of the first y rows. Assumes nothing.
use mathlib.Core.Path.{◌≡◌}
use Prim.Native.Nat.{◌+◌, ◌≤◌}
use lib.ListN.{length}
use lib.Seq.{sets}
use Rattle.vector.specs.Flat.{rows}
use Rattle.grid.specs.Rows.{row_listed}
use Rattle.grid.proofs.listing.list_layer.Given as goal

abbrev pub invariant-loop-y : goal.invariant-loop-y
invariant-loop-y l = (l.y ≤ l.b.rows) × (l.k ≡ l.at + length (rows (row_listed l.starts l.items l.b l.z) l.y)) × (l.list ≡ sets l.initial.list l.at (rows (row_listed l.starts l.items l.b l.z) l.y)) × (length l.list ≡ length l.initial.list)
