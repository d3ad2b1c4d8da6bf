-- `grid::listing::list_row` meets its contract. The loop has stored the first j numbers. Assumes nothing.
use mathlib.Core.Path.{◌≡◌}
use Prim.Native.Nat.{◌+◌, ◌-◌, ◌≤◌}
use lib.ListN.{length}
use lib.Seq.{slice, sets}
use Rattle.grid.proofs.listing.list_row.Given as goal

abbrev pub invariant-loop-j : goal.invariant-loop-j
invariant-loop-j l = (l.j ≤ l.to - l.from) × (l.list ≡ sets l.initial.list l.at (slice l.from (l.from + l.j) l.items)) × (length l.list ≡ length l.initial.list)
