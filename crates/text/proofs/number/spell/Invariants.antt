-- `text::number::spell` meets its contract. The digits that are left, with what out holds after them, are all the digits and what out held after them. Assumes nothing.
use Prim.Native.Nat.{◌≤◌}
use mathlib.Core.Path.{◌≡◌}
use mathlib.Core.List.{◌++◌}
use lib.ListN.{length, drop}
use Rattle.text.specs.Digits.{last_digits}
use Rattle.text.proofs.number.spell.Given as goal

abbrev pub invariant-loop-i : goal.invariant-loop-i
invariant-loop-i l = (l.i ≤ l.k) × (length l.out ≡ length l.initial.out) × (last_digits l.base l.i l.rest ++ drop l.i l.out ≡ last_digits l.base l.k l.n ++ drop l.k l.initial.out)
