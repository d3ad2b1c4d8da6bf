-- `grid::listing::count_block` meets its contract. The loop has counted the numbers of the first z layers. Assumes nothing.
use mathlib.Core.Path.{◌≡◌}
use Prim.Native.Nat.{◌*◌, ◌≤◌}
use lib.ListN.{length}
use Rattle.vector.specs.Flat.{rows}
use Rattle.grid.specs.Rows.{layer_listed}
use Rattle.grid.proofs.listing.count_block.Given as goal

abbrev pub invariant-loop-z : goal.invariant-loop-z
invariant-loop-z l = (l.z ≤ l.b.layers) × (l.count ≡ length (rows (layer_listed l.starts l.items l.b) l.z)) × (l.count ≤ l.z * 204800000)
