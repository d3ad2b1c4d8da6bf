-- `file::floats::store_entry` meets its contract. The loop has stored the first j floats. Assumes nothing.
use mathlib.Core.Path.{◌≡◌}
use mathlib.Core.List.{[], ◌∷◌}
use Prim.Native.Nat.{◌+◌, ◌≤◌}
use lib.ListN.{length}
use lib.Seq.{sets}
use Rattle.vector.specs.Flat.{rows}
use Rattle.file.specs.Words.{float_in}
use Rattle.file.proofs.floats.store_entry.Given as goal

abbrev pub invariant-loop-j : goal.invariant-loop-j
invariant-loop-j l = (l.j ≤ l.width) × (l.out ≡ sets l.initial.out l.to (rows (λ i. float_in l.bytes (l.k + i) ∷ []) l.j)) × (length l.out ≡ length l.initial.out)
