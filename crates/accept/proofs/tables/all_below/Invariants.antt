-- `accept::tables::all_below` meets its contract. The loop has tested the first k numbers. Assumes nothing.
use mathlib.Core.Path.{◌≡◌}
use Prim.Native.Nat.{◌≤◌}
use lib.Dec.{ltb}
use Rattle.accept.specs.Every.{every}
use Rattle.accept.specs.Tables.{number_at}
use Rattle.accept.proofs.tables.all_below.Given as goal

abbrev pub invariant-loop-k : goal.invariant-loop-k
invariant-loop-k g l = (l.k ≤ l.n) × (l.ok ≡ every (λ i. ltb (number_at (g.N.Listed.items l.s) i) l.bound) l.k)
