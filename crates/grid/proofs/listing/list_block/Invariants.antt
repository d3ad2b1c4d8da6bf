-- `grid::listing::list_block` meets its contract. The loop has stored the numbers of the first z layers. Assumes nothing.
use mathlib.Core.Path.{◌≡◌}
use Prim.Native.Nat.{◌≤◌}
use lib.ListN.{length}
use lib.Seq.{sets}
use Rattle.vector.specs.Flat.{rows}
use Rattle.grid.specs.Rows.{layer_listed}
use Rattle.grid.proofs.listing.list_block.Given as goal

abbrev pub invariant-loop-z : goal.invariant-loop-z
invariant-loop-z l = (l.z ≤ l.b.layers) × (l.at ≡ length (rows (layer_listed l.starts l.items l.b) l.z)) × (l.list ≡ sets l.initial.list 0 (rows (layer_listed l.starts l.items l.b) l.z)) × (length l.list ≡ length l.initial.list)
