-- `file::floats::store_floats` meets its contract. The loop has stored the first i entries. Assumes nothing.
use mathlib.Core.Path.{◌≡◌}
use Prim.Native.Nat.{◌≤◌}
use lib.ListN.{length}
use Rattle.vector.specs.Flat.{replaced}
use Rattle.file.specs.Columns.{entry_floats}
use Rattle.file.proofs.floats.store_floats.Given as goal

abbrev pub invariant-loop-i : goal.invariant-loop-i
invariant-loop-i l = (l.i ≤ l.col.count) × (l.out ≡ replaced l.col.width (entry_floats l.bytes l.col) l.i l.initial.out) × (length l.out ≡ length l.initial.out)
