-- `accept::tables::monotone` meets its contract. The loop has compared the starts before the one at place i with the next. Assumes nothing.
use mathlib.Core.Path.{◌≡◌}
use Prim.Native.Nat.{◌+◌, ◌-◌, ◌≤◌}
use lib.Dec.{leb}
use Rattle.accept.specs.Every.{every}
use Rattle.accept.specs.Tables.{number_at}
use Rattle.accept.proofs.tables.monotone.Given as goal

abbrev pub invariant-loop-i : goal.invariant-loop-i
invariant-loop-i g l = (l.i - 1 ≤ l.n) × (l.ok ≡ every (λ k. leb (number_at (g.N.Listed.items l.starts) k) (number_at (g.N.Listed.items l.starts) (k + 1))) (l.i - 1))
