-- The parts of a positive float: their bounds, and that they give its value. Assumes nothing.
use mathlib.Core.Path.{◌≡◌, refl, sym, ap, ◌∙◌, subst}
use mathlib.Core.Logic.{inl, inr}
use mathlib.Core.Bool.{Bool, true, false, cond, true≢false}
use Prim.Native.Nat.{ℕ, suc, ◌+◌, ◌-◌, ◌*◌, ◌/◌, ◌%◌, ◌^◌, ◌≤◌, ◌<◌}
use native.Mathlib.Nat.{le_trans, le_of_eq, lt_of_lt_of_le, lt_of_not-le, not-le_of_lt, mul-pos, two-pow-succ}
use native.Mathlib.Omega.{arith}
use lib.Dec.{T}
use borrow.Author.Tests.{lt-ltb, le-ltb}
use lib.Pow.{pow_pos, pow_mono}
use lib.Count.{count_leading_zeros, leading_length}
use lib.Ieee.{Float, binary32, size, odd, lt, fits, of_bits, to_bits}
use lib.Ieee.Bits.{of_bits-to_bits}
use lib.Ieee.Digits.{size-lt, size-le}
use lib.Ieee.Exact.{HasValue, odd_sign}
use lib.Ieee.Positive.{positive, positive_of_value}
use Rattle.float.specs.Arithmetic.{0f}
use Rattle.float.proofs.Numbers.{here_or_on}
use Rattle.float.proofs.Patterns.{small, normal}
use Rattle.subnormal.specs.Parts.{significand_of, exponent_of}

-- ---- the digits of a number, by its leading zeros

pub digits_of : (p : ℕ) → p < 2 ^ 64 → 64 - count_leading_zeros 64 p ≡ size p
digits_of p l =
    let t = leading_length 64 p l in
    let m = t.0 in
    let a : size p ≤ m = size-le p m t.2 in
    let b : m < size p + 1 = lt_of_not-le (λ (g : size p + 1 ≤ m). not-le_of_lt (fewer (size-lt p) (le_trans (le_of_eq (sym (two-pow-succ (size p)))) (pow_mono (next g)))) t.3) in
    let e = t.1 in
    omega arith
  where
    next : {m : ℕ} → size p + 1 ≤ m → suc (size p) ≤ m
    next g = omega arith

    fewer : {u v : ℕ} → p < u → u + u ≤ v → 2 * p + 1 < v
    fewer g h = omega arith

-- a number from 2 ^ j on has more than j digits
pub digits_over : (p j : ℕ) → 2 ^ j ≤ p → j < size p
digits_over p j h = lt_of_not-le (λ (g : size p ≤ j). not-le_of_lt (lt_of_lt_of_le (size-lt p) (pow_mono g)) h)

-- ---- a significand

pub below : (b : ℕ) → b < 2 ^ 23 → significand_of b ≡ b
below b l = ap (λ (t : Bool). cond t b (2 ^ 23 + b % 2 ^ 23)) (lt-ltb b (2 ^ 23) l)

pub from : (b : ℕ) → 2 ^ 23 ≤ b → significand_of b ≡ 2 ^ 23 + b % 2 ^ 23
from b g = ap (λ (t : Bool). cond t b (2 ^ 23 + b % 2 ^ 23)) (le-ltb b (2 ^ 23) g)

pub significand_lt : (b : ℕ) → significand_of b < 2 ^ 24
significand_lt b = elim (here_or_on b (2 ^ 23)) [
  | inl l ↦ let e = below b l in omega arith
  | inr g ↦ let e = from b g in omega arith
]

pub significand_pos : (b : ℕ) → 0 < b → 0 < significand_of b
significand_pos b p = elim (here_or_on b (2 ^ 23)) [
  | inl l ↦ let e = below b l in omega arith
  | inr g ↦ let e = from b g in omega arith
]

-- a significand has 24 digits at most
pub zeros_ge : (m : ℕ) → m < 2 ^ 24 → 40 ≤ count_leading_zeros 64 m
zeros_ge m l = let e = digits_of m (omega arith) in let f = size-le m 24 l in omega arith

pub exponent_pos : (b : ℕ) → 1 ≤ exponent_of b
exponent_pos b = omega arith

-- ---- the value

-- the float with the pattern b is m * 2 ^ e smallest values
abbrev Is : ℕ → ℕ → ℕ → Type 0
Is b m e = HasValue (of_bits binary32 b) false (m * 2 ^ e) (2 ^ 149)

pub value_of : (b : ℕ) → b < 0x7f80_0000 → HasValue (of_bits binary32 b) false (significand_of b * 2 ^ (exponent_of b - 1)) (2 ^ 149)
value_of b u = elim (here_or_on b (2 ^ 23)) [ inl l ↦ under l | inr g ↦ over g ]
  where
    by : (q k : ℕ) → of_bits binary32 b ≡ odd 24 false q k 149 → Is b q k
    by q k e = subst (λ (w : Float). HasValue w false (q * 2 ^ k) (2 ^ 149)) (sym e) (odd_sign 24 false q k 149)

    under : b < 2 ^ 23 → Is b (significand_of b) (exponent_of b - 1)
    under l = subst (λ (m : ℕ). Is b m (exponent_of b - 1)) (sym (below b l)) (subst (λ (e : ℕ). Is b b e) none (by b 0 (small b l)))
      where
        none : 0 ≡ exponent_of b - 1
        none = omega arith

    over : 2 ^ 23 ≤ b → Is b (significand_of b) (exponent_of b - 1)
    over g = subst (λ (m : ℕ). Is b m (exponent_of b - 1)) (sym (from b g)) (subst (λ (e : ℕ). Is b (2 ^ 23 + b % 2 ^ 23) e) same (by (2 ^ 23 + b % 2 ^ 23) (b / 2 ^ 23 - 1) (normal b g u)))
      where
        same : b / 2 ^ 23 - 1 ≡ exponent_of b - 1
        same = omega arith

-- ---- what is above 0

zero_level : lt 0f 0f ≡ false
unfolding lt of_bits
zero_level = refl

pub some_bits : (x : Float) → T (fits binary32 x) → lt 0f x ≡ true → 0 < to_bits binary32 x
some_bits x F h = elim (here_or_on 0 (to_bits binary32 x)) [ inl l ↦ l | inr g ↦ absurd (true≢false (sym h ∙ ap (λ (y : Float). lt 0f y) (is_zero g) ∙ zero_level)) ]
  where
    is_zero : to_bits binary32 x ≤ 0 → x ≡ 0f
    is_zero g = sym (of_bits-to_bits binary32 x F) ∙ ap (λ (b : ℕ). of_bits binary32 b) (none (to_bits binary32 x) g)
      where
        none : (b : ℕ) → b ≤ 0 → b ≡ 0
        none b e = omega arith

-- x, by its pattern: a value and positive
pub record Parts (x : Float) : Type 0 where
  pub some : 0 < significand_of (to_bits binary32 x)
  pub few : significand_of (to_bits binary32 x) < 2 ^ 24
  pub is : HasValue x false (significand_of (to_bits binary32 x) * 2 ^ (exponent_of (to_bits binary32 x) - 1)) (2 ^ 149)
  pub plus : T (positive x)

pub parts_of : (x : Float) → T (fits binary32 x) → lt 0f x ≡ true → to_bits binary32 x < 0x7f80_0000 → Parts x
parts_of x F h l =
    let b = to_bits binary32 x in
    let m = significand_pos b (some_bits x F h) in
    let v = subst (λ (y : Float). HasValue y false (significand_of b * 2 ^ (exponent_of b - 1)) (2 ^ 149)) (of_bits-to_bits binary32 x F) (value_of b l) in
    record {
      some = m;
      few = significand_lt b;
      is = v;
      plus = positive_of_value x (significand_of b * 2 ^ (exponent_of b - 1)) (2 ^ 149) v (mul-pos m (pow_pos (exponent_of b - 1)));
    }
