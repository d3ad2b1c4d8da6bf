-- The digits of a number: the turns of the loops that count and write them, and how many there are. Assumes nothing.
use Prim.Native.Nat.{ℕ, zero, suc, ◌-◌, ◌/◌, ◌%◌, ◌≤◌, ◌<◌}
use mathlib.Core.Path.{◌≡◌, refl}
use mathlib.Core.Bool.{Bool, true, false, cond}
use mathlib.Core.List.{List, [], ◌∷◌, ◌++◌}
use native.Mathlib.Omega.{arith}
use native.Mathlib.Nat.{mod-eq_of_lt, sub-zero, suc-sub-suc}
use native.Mathlib.Numerals.{add-one}
use lib.Dec.{ltb}
use lib.ListN.{length, drop, set, replicate, length-append, length-set}
use lib.Seq.{append_snoc, drop-cons, drop-set-lt, get_or-set_same}
use borrow.Author.Tests.{ltb-true, lt-ltb}
use Rattle.text.specs.Digits.{glyph, last_digits, decimal_within, decimal_digits}

-- there are as many as were asked for
pub length_digits : (b k n : ℕ) → length (last_digits b k n) ≡ k
unfolding last_digits
length_digits b zero n = refl
length_digits b (suc k) n = simp (length-append, length_digits b k (n / b)) (omega arith)

-- a turn of the loop that writes digits from the last to the first
pub digit_put : (b i n : ℕ) (out : List ℕ) → 0 < i → i ≤ length out
    → last_digits b (i - 1) (n / b) ++ drop (i - 1) (set out (i - 1) (glyph (n % b))) ≡ last_digits b i n ++ drop i out
unfolding last_digits
digit_put b zero n out h hl = absurd (omega arith)
digit_put b (suc j) n out h hl =
    let e : suc j - 1 ≡ j = omega arith in
    rw (e, drop-cons (set out j (glyph (n % b))) j 0 (simp length-set (omega arith)), get_or-set_same out j (glyph (n % b)) 0, drop-set-lt (suc j) out j (glyph (n % b)) (omega arith), append_snoc)

-- a number below 10 is one decimal digit
pub one_digit : (k n : ℕ) → n < 10 → decimal_within (suc k) n ≡ glyph n ∷ []
unfolding decimal_within
one_digit k n h = rw (lt-ltb n 10 h)

-- at most k digits
pub decimal-length : (k n : ℕ) → length (decimal_within k n) ≤ k
unfolding decimal_within
decimal-length zero n = omega arith
decimal-length (suc k) n = by (ltb n 10) (decimal-length k (n / 10))
  where
    by : (t : Bool) → length (decimal_within k (n / 10)) ≤ k
        → length (cond t (glyph n ∷ []) (decimal_within k (n / 10) ++ (glyph (n % 10) ∷ []))) ≤ suc k
    by true h = omega arith
    by false h = simp length-append (omega arith)

-- decimal digits are the last digits in base 10, as many as there are
pub decimal_digits_lem : (k n : ℕ) → last_digits 10 (length (decimal_within k n)) n ≡ decimal_within k n
unfolding last_digits decimal_within
decimal_digits_lem zero n = refl
decimal_digits_lem (suc k) n = by (ltb n 10) refl (decimal_digits_lem k (n / 10))
  where
    by : (t : Bool) → ltb n 10 ≡ t → last_digits 10 (length (decimal_within k (n / 10))) (n / 10) ≡ decimal_within k (n / 10)
        → last_digits 10 (length (cond t (glyph n ∷ []) (decimal_within k (n / 10) ++ (glyph (n % 10) ∷ [])))) n
        ≡ cond t (glyph n ∷ []) (decimal_within k (n / 10) ++ (glyph (n % 10) ∷ []))
    by true e h = rw (mod-eq_of_lt (ltb-true n 10 e))
    by false e h = rw (length-append, add-one, h)

-- what is left of n zeros after the first k
pub drop_replicate : (k n : ℕ) (a : ℕ) → k ≤ n → drop k (replicate n a) ≡ replicate (n - k) a
drop_replicate zero n a h = rw sub-zero
drop_replicate (suc k) zero a h = absurd (omega arith)
drop_replicate (suc k) (suc n) a h = rw suc-sub-suc (drop_replicate k n a (omega arith))

-- the array after `spell` has a number's digits in front, as many as it takes, and zeros after them
pub numeral : (n count : ℕ) (l : List ℕ) → count ≡ length (decimal_digits n) → l ≡ last_digits 10 count n ++ drop count (replicate 10 0)
    → l ≡ decimal_digits n ++ replicate (10 - length (decimal_digits n)) 0
numeral n count l e h =
    rw (h, e, decimal_digits_lem 10 n, drop_replicate (length (decimal_digits n)) 10 0 (decimal-length 10 n))
