-- `file::floats::column_within` meets its contract. The loop has tested the first i entries. Assumes nothing.
use mathlib.Core.Path.{◌≡◌}
use Prim.Native.Nat.{◌+◌, ◌≤◌}
use Rattle.accept.specs.Every.{every}
use Rattle.accept.specs.Ranges.{all_within}
use Rattle.file.specs.Words.{float_in}
use Rattle.file.specs.Columns.{entry_from}
use Rattle.file.proofs.floats.column_within.Given as goal

abbrev pub invariant-loop-i : goal.invariant-loop-i
invariant-loop-i l = (l.i ≤ l.col.count) × (l.ok ≡ every (λ k. all_within (λ j. float_in l.bytes (entry_from l.col k + j)) l.col.width l.lo l.hi) l.i)
