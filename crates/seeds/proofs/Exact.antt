-- In base 2 the radical inverse of a number below 2 ^ 24 is exact: its digits mirrored, behind the point. No product and no sum on the way has more than 24 digits, so none is
-- rounded. Assumes nothing.
use mathlib.Core.Path.{◌≡◌, refl}
use mathlib.Core.Bool.{false}
use Prim.Native.Nat.{ℕ, zero, suc, ◌+◌, ◌*◌, ◌/◌, ◌%◌, ◌^◌, ◌≤◌, ◌<◌}
use native.Mathlib.Nat.{le_refl, add-zero, zero-add, pow-suc, lt_of_lt_of_le, zero-lt-suc, mod-lt}
use native.Mathlib.Omega.{arith}
use lib.Dec.{lit<}
use lib.Pow.{pow_mono}
use lib.Ieee.{Float, of_bits, of_int, div}
use lib.Ieee.Exact.{HasValue}
use Rattle.float.specs.Arithmetic.{◌+f◌, ◌*f◌, ◌/f◌, 0f, 1f}
use Rattle.vector.specs.Halton.{of_whole, inverse_from, radical_inverse}
use Rattle.seeds.specs.Mirrored.{mirrored}
use Rattle.seeds.specs.Seeds.{seed}
use Rattle.seeds.proofs.Digits.{weight, no_digit, one_digit}
use Rattle.seeds.proofs.Mirroring.{mirrored_none, behind_below, rest_below, lowest_first}
use Rattle.seeds.proofs.Short.{Short, pad, whole_exact, add_exact, mul_exact}

-- 1 / 2 is exact
half : Short (1f /f of_whole 2) 1 1
unfolding div of_bits of_int
half = (refl, refl)

-- one digit d: the weight f is 1 / 2 ^ t, and the sum r is R / 2 ^ t
module _ (f r : Float) (R d t : ℕ) (few : R * 2 + d < 2 ^ 24) (short : suc t ≤ 149) (D : d < 2) (f-is : Short f 1 t) (r_is : Short r R t) where
  -- the digit's weight is half of that
  weight_is : Short (weight 2 f) 1 (suc t)
  weight_is = mul_exact f (1f /f of_whole 2) 1 1 1 t 1 (suc t) refl (omega arith) (lit< tt) short f-is half

  -- the digit weighed
  term_is : Short (weight 2 f *f of_whole d) d (suc t)
  term_is = mul_exact (weight 2 f) (of_whole d) 1 d d (suc t) 0 (suc t) (omega arith) (omega arith) (omega arith) short weight_is (whole_exact d (omega arith))

  -- the sum with it
  sum_is : Short (r +f weight 2 f *f of_whole d) (R * 2 + d) (suc t)
  sum_is = add_exact r (weight 2 f *f of_whole d) (R * 2) d (suc t) few short (pad r R t 1 (suc t) (omega arith) r_is) term_is

-- R / 2 ^ t, where no digit is left, over 2 ^ 24
none_exact : (k t left R : ℕ) (f r : Float) → t + k ≡ 24 → Short r R t → Short (inverse_from 2 left f r 0) (R * 2 ^ k + mirrored 2 k 0) 24
none_exact k t left R f r e r_is = rw (no_digit 2 left f r, mirrored_none 2 k, add-zero (R * 2 ^ k)) (pad r R t k 24 e r_is)

-- R / 2 ^ t with the k digits of i behind it, over 2 ^ 24
digits_exact : (k t left i R : ℕ) (f r : Float) → t + k ≡ 24 → i < 2 ^ k → i ≤ left → R < 2 ^ t → Short f 1 t → Short r R t
    → Short (inverse_from 2 left f r i) (R * 2 ^ k + mirrored 2 k i) 24
digits_exact k t zero zero R f r e I L B f-is r_is = none_exact k t zero R f r e r_is
digits_exact k t (suc left) zero R f r e I L B f-is r_is = none_exact k t (suc left) R f r e r_is
digits_exact k t zero (suc n) R f r e I L B f-is r_is = absurd (omega arith)
digits_exact zero t (suc left) (suc n) R f r e I L B f-is r_is = absurd (omega arith)
digits_exact (suc k) t (suc left) (suc n) R f r e I L B f-is r_is =
    let i = suc n in
    let D : i % 2 < 2 = mod-lt i (zero-lt-suc 1) in
    let B' : R * 2 + i % 2 < 2 ^ suc t = rw (pow-suc 2 t) (behind_below R (2 ^ t) (i % 2) 2 B D) in
    let few : R * 2 + i % 2 < 2 ^ 24 = lt_of_lt_of_le B' (pow_mono {i = suc t} {j = 24} (omega arith)) in
    let short : suc t ≤ 149 = omega arith in
    rw (one_digit 2 left i f r (zero-lt-suc n), ← lowest_first 2 k R i)
    (digits_exact k (suc t) left (i / 2) (R * 2 + i % 2) (weight 2 f) (r +f weight 2 f *f of_whole (i % 2)) (omega arith) (rest_below 2 k i (zero-lt-suc 1) I) (omega arith) B'
    (weight_is f r R (i % 2) t few short D f-is r_is) (sum_is f r R (i % 2) t few short D f-is r_is))

-- the radical inverse in base 2 of a number below 2 ^ 24 is its 24 digits mirrored, behind the point
pub halton_two : (i : ℕ) → i < 2 ^ 24 → HasValue (radical_inverse 2 i) false (mirrored 2 24 i) (2 ^ 24)
unfolding radical_inverse
halton_two i h = rw zero-add at (digits_exact 24 0 i i 0 1f 0f refl h (le_refl i) (zero-lt-suc 0) (unfold of_bits in (refl, refl)) (unfold of_bits in (refl, refl)))

-- so is the x of a seed
pub seed_x : (i : ℕ) → i < 2 ^ 24 → HasValue (seed i).x false (mirrored 2 24 i) (2 ^ 24)
unfolding seed
seed_x i h = halton_two i h
