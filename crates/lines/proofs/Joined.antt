-- How many bytes a line has after each of its pieces. Assumes nothing.
use mathlib.Core.List.{List, [], ◌++◌}
use mathlib.Core.Path.{◌≡◌, ap, ◌∙◌}
use Prim.Native.Nat.{ℕ, ◌+◌, ◌≤◌}
use native.Mathlib.Omega.{arith}
use lib.ListN.{length, length-append}
use Rattle.text.specs.Digits.{hex_digits, decimal_digits}
use Rattle.text.proofs.Spelling.{decimal-length}
use Rattle.text.proofs.Laws.{length_hex}

-- none where it is empty, and those of a text more after it
pub empty_length : (m : List ℕ) → m ≡ [] → length m ≡ 0
empty_length m e = ap length e

pub with_length : (l m s : List ℕ) → m ≡ l ++ s → length m ≡ length l + length s
with_length l m s e = ap length e ∙ length-append l s

-- at most ten more after decimal digits, and eight more after hexadecimal ones
pub with_decimal_length : (l m : List ℕ) (n : ℕ) → m ≡ l ++ decimal_digits n → length m ≤ length l + 10
with_decimal_length l m n e = omega (arith, with_length l m (decimal_digits n) e, decimal-length 10 n)

pub with_float_length : (l m : List ℕ) (w : ℕ) → m ≡ l ++ hex_digits w → length m ≡ length l + 8
with_float_length l m w e = omega (arith, with_length l m (hex_digits w) e, length_hex w)

-- those, for `omega`, which takes the first that fits
pub ruleset line-lengths = (empty_length, with_decimal_length, with_float_length, with_length)
