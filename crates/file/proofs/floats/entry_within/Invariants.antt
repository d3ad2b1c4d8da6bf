-- `file::floats::entry_within` meets its contract. The loop has tested the first j floats. Assumes nothing.
use mathlib.Core.Path.{◌≡◌}
use Prim.Native.Nat.{◌+◌, ◌≤◌}
use Rattle.accept.specs.Every.{every}
use Rattle.accept.specs.Ranges.{within}
use Rattle.file.specs.Words.{float_in}
use Rattle.file.proofs.floats.entry_within.Given as goal

abbrev pub invariant-loop-j : goal.invariant-loop-j
invariant-loop-j l = (l.j ≤ l.width) × (l.ok ≡ every (λ i. within (float_in l.bytes (l.k + i)) l.lo l.hi) l.j)
