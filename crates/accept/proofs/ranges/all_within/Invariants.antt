-- `accept::ranges::all_within` meets its contract. The loop has tested the first k floats. Assumes nothing.
use mathlib.Core.Path.{◌≡◌}
use Prim.Native.Nat.{◌≤◌}
use Rattle.accept.specs.Every.{every}
use Rattle.float.specs.Column.{float_at}
use Rattle.accept.specs.Ranges.{within}
use Rattle.accept.proofs.ranges.all_within.Given as goal

abbrev pub invariant-loop-k : goal.invariant-loop-k
invariant-loop-k g l = (l.k ≤ l.n) × (l.ok ≡ every (λ i. within (float_at (g.F.Listed.items l.s) i) l.lo l.hi) l.k)
