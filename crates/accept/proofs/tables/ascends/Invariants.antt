-- `accept::tables::ascends` meets its contract. The loop has compared the links of the row before the link j with the next. Assumes nothing.
use mathlib.Core.Path.{◌≡◌}
use Prim.Native.Nat.{◌+◌, ◌-◌, ◌≤◌}
use lib.Dec.{ltb}
use Rattle.accept.specs.Every.{every}
use Rattle.accept.specs.Tables.{number_at}
use Rattle.accept.proofs.tables.ascends.Given as goal

abbrev pub invariant-loop-j : goal.invariant-loop-j
invariant-loop-j g l = (l.j - 1 - l.a ≤ l.b - l.a - 1) × (l.ok ≡ every (λ i. ltb (number_at (g.N.Listed.items l.links) (l.a + i)) (number_at (g.N.Listed.items l.links) (l.a + i + 1))) (l.j - 1 - l.a))
