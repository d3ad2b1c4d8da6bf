-- The cases of the square root that are no positive finite number: NaN, infinities, zeros and negative numbers. Assumes nothing.
use Rattle.std.proofs.Common.{◌≡◌, ℕ, zero, suc, ◌+◌, ◌-◌, ◌*◌, ◌/◌, ◌%◌, ◌^◌, ◌<◌, ◌≤◌, Bool, true, false, cond, not, T, eqb, ltb, leb, ◌⊎◌, sym, refl, ap, ◌∙◌, subst, inl, inr, zero-lt-suc, mul-pos, arith, le→leb, nltb→le, pow_pos}
use mathlib.Core.Bool.{false≢true}
use lib.Bits.{bit_and, and_mask}
use lib.Ieee.{Float, nan, inf, fin, binary32, odd, fits, is_nan, of_fields, of_bits, to_bits}
use lib.Ieee.Bits.{is_true, of_bits-to_bits, to_bits-lt, nan_bits_is, nan_bits_above}
use lib.Ieee.Exact.{HasValue, odd_sign}
use Rattle.float.specs.Root.{square_root}
use Rattle.float.proofs.Numbers.{here_or_on}
use Rattle.float.proofs.Nans.{nan_only}
use Rattle.float.proofs.Patterns.{of_bits_is, no_value}

-- ---- NaN
sqrt_nan : square_root nan ≡ nan
unfolding square_root
sqrt_nan = refl

pub of_nan : (x : Float) → is_nan x ≡ true → x ≡ square_root x
of_nan x e = subst (λ (y : Float). y ≡ square_root y) (nan_only x e) (sym sqrt_nan)

-- ---- the two zeros and the positive infinity are their own root
abbrev Own : ℕ → Type 0
Own b = of_bits binary32 b ≡ square_root (of_bits binary32 b)

own : Own 0 × Own 0x8000_0000 × Own 0x7f80_0000
unfolding of_bits square_root
own = (refl, refl, refl)

zero_bits : (b : ℕ) → b < 2 ^ 32 → b % 2 ^ 31 ≡ 0 → (b ≡ 0) ⊎ (b ≡ 0x8000_0000)
zero_bits b u e = elim (here_or_on b 1) [ inl h ↦ inl (omega arith) | inr h ↦ inr (omega arith) ]

pub of_zero : (x : Float) → T (fits binary32 x) → bit_and (to_bits binary32 x) (2 ^ 31 - 1) ≡ 0 → x ≡ square_root x
of_zero x F h =
    let b = to_bits binary32 x in
    subst (λ (y : Float). y ≡ square_root y) (of_bits-to_bits binary32 x F)
    (elim (zero_bits b (to_bits-lt binary32 x F) (sym (and_mask b 31) ∙ h)) [ inl e ↦ subst Own (sym e) own.0 | inr e ↦ subst Own (sym e) own.1 ])

pub of_inf : (x : Float) → T (fits binary32 x) → to_bits binary32 x ≡ 0x7f80_0000 → x ≡ square_root x
of_inf x F h = subst (λ (y : Float). y ≡ square_root y) (of_bits-to_bits binary32 x F) (subst Own (sym h) own.2)

-- ---- negative numbers
negative_value : (x : Float) (a : ℕ) → HasValue x true a (2 ^ 149) → 0 < a → square_root x ≡ nan
unfolding square_root
negative_value nan a v p = absurd v
negative_value (inf s) a v p = absurd v
negative_value (fin false m e) a v p = absurd (false≢true v.0)
negative_value (fin true zero e) a v p = absurd (no_value e a v.1 p)
negative_value (fin true (suc m) e) a v p = refl

negative_odd : (q k : ℕ) → 0 < q → square_root (odd 24 true q k 149) ≡ nan
negative_odd q k p = negative_value (odd 24 true q k 149) (q * 2 ^ k) (odd_sign 24 true q k 149) (mul-pos p (pow_pos k))

negative_fields : (x t : ℕ) → (x ≡ 0 → t ≡ 0 → ⊥) → square_root (of_fields binary32 true x t) ≡ nan
unfolding of_fields
negative_fields zero zero h = absurd (h refl refl)
negative_fields zero (suc t) h = negative_odd (suc t) 0 (zero-lt-suc t)
negative_fields (suc x) t h = go (eqb (suc x) 255) (eqb t 0)
  where
    some : (a : ℕ) → 0 < 8388608 + a
    some a = omega arith

    go : (a b : Bool) → square_root (cond a (cond b (inf true) nan) (odd 24 true (8388608 + t) x 149)) ≡ nan
    go true true = unfold square_root in refl
    go true false = sqrt_nan
    go false b = negative_odd (8388608 + t) x (some t)

negative_bits : (b : ℕ) → b < 2 ^ 32 → 0x8000_0000 < b → square_root (of_bits binary32 b) ≡ nan
negative_bits b u l =
    ap (λ (y : Float). square_root y) (of_bits_is b ∙ ap (λ (s : Bool). of_fields binary32 s (b % 2147483648 / 8388608) (b % 8388608)) (is_true (leb 2147483648 b) (le→leb 2147483648 b (omega arith))))
    ∙ negative_fields (b % 2147483648 / 8388608) (b % 8388608) some
  where
    some : b % 2147483648 / 8388608 ≡ 0 → b % 8388608 ≡ 0 → ⊥
    some e d = omega arith

-- a pattern that is not a zero's, with the sign set
pub negative : (x r : Float) → T (fits binary32 x) → (bit_and (to_bits binary32 x) (2 ^ 31 - 1) ≡ 0 → ⊥) → (to_bits binary32 x / 2 ^ 31 ≡ 0 → ⊥) → r ≡ nan → r ≡ square_root x
negative x r F d l e =
    e ∙ sym (ap (λ (y : Float). square_root y) (sym (of_bits-to_bits binary32 x F)) ∙ negative_bits (to_bits binary32 x) (to_bits-lt binary32 x F) (omega (arith, d, l, and_mask (to_bits binary32 x) 31)))

-- ---- what is left is the pattern of a positive finite number
pub is_positive : (x : Float) → T (fits binary32 x) → T (not (is_nan x)) → (bit_and (to_bits binary32 x) (2 ^ 31 - 1) ≡ 0 → ⊥) → to_bits binary32 x / 2 ^ 31 ≡ 0 → (to_bits binary32 x ≡ 0x7f80_0000 → ⊥)
    → (0 < to_bits binary32 x) × (to_bits binary32 x < 0x7f80_0000)
is_positive x F n z u i =
    let b = to_bits binary32 x in
    let t : T (not (ltb 0x7f80_0000 (b % 0x8000_0000))) =
    subst (λ (c : Bool). T (not c)) (ap is_nan (sym (of_bits-to_bits binary32 x F)) ∙ sym (nan_bits_is binary32 b) ∙ nan_bits_above binary32 b) n in
    let l : b % 0x8000_0000 ≤ 0x7f80_0000 = nltb→le 0x7f80_0000 (b % 0x8000_0000) t in
    (omega (arith, z, and_mask b 31), omega (arith, i))
