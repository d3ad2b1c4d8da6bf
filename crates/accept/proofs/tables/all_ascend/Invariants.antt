-- `accept::tables::all_ascend` meets its contract. The loop has tested the first i rows; the starts never fall, so each row lies within the links. Assumes nothing.
use mathlib.Core.Path.{◌≡◌}
use Prim.Native.Nat.{◌+◌, ◌≤◌}
use Rattle.accept.specs.Every.{every}
use Rattle.accept.specs.Tables.{ascends, number_at}
use Rattle.accept.proofs.tables.all_ascend.Given as goal

abbrev pub invariant-loop-i : goal.invariant-loop-i
invariant-loop-i g l = (l.i ≤ l.n) × (l.ok ≡ every (λ k. ascends (number_at (g.N.Listed.items l.links)) (number_at (g.N.Listed.items l.starts) k) (number_at (g.N.Listed.items l.starts) (k + 1))) l.i)
