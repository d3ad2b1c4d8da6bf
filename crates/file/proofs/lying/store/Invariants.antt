-- `file::lying::store` meets its contract. The loop has stored the first k items. Assumes nothing.
use mathlib.Core.Path.{◌≡◌}
use Prim.Native.Nat.{◌≤◌}
use lib.ListN.{length}
use lib.Seq.{paste}
use Rattle.file.proofs.lying.store.Given as goal

abbrev pub invariant-loop-k : goal.invariant-loop-k
invariant-loop-k g l = (l.k ≤ length (g.L.Listed.items l.list)) × (l.out ≡ paste l.initial.out 0 (g.L.Listed.items l.list) l.k)
