-- A float truncated to a whole number, and rounded up to one. Assumes nothing.
use Rattle.std.proofs.Common.{◌≡◌, ℕ, zero, suc, ◌+◌, ◌-◌, ◌*◌, ◌/◌, ◌^◌, ◌<◌, ◌≤◌, min, true, false, T, ℤ, pos, neg_ℤ, sym, refl, ◌∙◌, subst, lt_of_lt_of_le, div-lt_iff_lt-mul, add-mul, lt_of_mul-lt-mul_right, mul-lt-mul_of_pos_right, le-div_iff_mul-le, mul-one, mul_right_comm, le_of_mul-le-mul_right, arith, leb→le, pow_pos, ltb-false, ltb-true, lt-ltb}
use lib.Ieee.{Float, nan, inf, fin, binary32, up, down, is_nan, lt, of_int, to_signed, to_unsigned}
use lib.Ieee.Exact.{HasValue, round_exact}
use lib.Ieee.Fits.{down_pos}
use Rattle.float.specs.Cells.{natural, truncate, ceiling}
use Rattle.float.proofs.Nans.{nan_only}
use Rattle.float.proofs.Signs.{clash}

-- 1 and 2 ^ 31: between them the standard library's cast is used
abbrev one_f : Float
one_f = fin false 1 (pos 0)

abbrev end_f : Float
end_f = fin false 1 (pos 31)

-- ---- `truncate`

natural_neg : (k : ℕ) → natural (neg_ℤ (pos k)) ≡ 0
natural_neg zero = refl
natural_neg (suc k) = refl

-- a number with the sign set is below 1, so one that is not has no sign
unsigned : (m : ℕ) (e : ℤ) {A : Type 0} → lt (fin true m e) one_f ≡ false → A
unfolding lt
unsigned m e h = absurd (omega (arith, down_pos e, ltb-false 0 (m * up e * 1 + 1 * 1 * down e) h))

pub truncate_low : (x : Float) → lt x one_f ≡ true → 0 ≡ truncate x
unfolding lt to_signed truncate
truncate_low nan h = refl
truncate_low (inf true) h = refl
truncate_low (inf false) h = clash (sym h)
truncate_low (fin true m e) h = sym (natural_neg (min (m * up e / down e) (2 ^ 31)))
truncate_low (fin false m e) h =
    let k : m * up e < 1 * down e = omega (arith, ltb-true (m * up e * 1) (1 * 1 * down e) h) in
    omega (arith, (div-lt_iff_lt-mul (down_pos e)).1 k)

-- between the two ends the cast to 64 bits is the cast to i32
pub truncate_mid : (x : Float) → lt x one_f ≡ false → lt x end_f ≡ true → to_unsigned 64 x ≡ truncate x
unfolding lt to_signed to_unsigned truncate
truncate_mid nan h g = clash (sym g)
truncate_mid (inf true) h g = clash h
truncate_mid (inf false) h g = clash (sym g)
truncate_mid (fin true m e) h g = unsigned m e h
truncate_mid (fin false m e) h g =
    let k : m * up e < 2 ^ 31 * down e = omega (arith, ltb-true (m * up e * 1) (1 * 2 ^ 31 * down e) g) in
    omega (arith, (div-lt_iff_lt-mul (down_pos e)).1 k)

-- and what it asks of its operand holds
pub truncate_asks : (x : Float) → lt x one_f ≡ false → lt x end_f ≡ true → T (lt (fin true 1 (pos 0)) x) × T (lt x (fin false 1 (pos 64)))
unfolding lt
truncate_asks nan h g = clash (sym g)
truncate_asks (inf true) h g = clash h
truncate_asks (inf false) h g = clash (sym g)
truncate_asks (fin true m e) h g = unsigned m e h
truncate_asks (fin false m e) h g = (
  subst T (sym (lt-ltb 0 (1 * 1 * down e + m * up e * 1) (omega (arith, down_pos e)))) tt,
  subst T (sym (lt-ltb (m * up e * 1) (1 * 2 ^ 64 * down e) (omega (arith, ltb-true (m * up e * 1) (1 * 2 ^ 31 * down e) g)))) tt,
)

pub truncate-nan : (x : Float) → is_nan x ≡ true → 0 ≡ truncate x
unfolding truncate to_signed
truncate-nan x h = rw (sym (nan_only x h))

pub truncate_high : (x : Float) → lt x end_f ≡ false → is_nan x ≡ false → 2 ^ 31 - 1 ≡ truncate x
unfolding lt to_signed truncate is_nan
truncate_high nan h g = clash g
truncate_high (inf true) h g = clash h
truncate_high (inf false) h g = refl
truncate_high (fin true m e) h g = absurd (omega (arith, down_pos e, ltb-false 0 (m * up e * 1 + 1 * 2 ^ 31 * down e) h))
truncate_high (fin false m e) h g =
    let k : 2 ^ 31 * down e ≤ m * up e = omega (arith, ltb-false (m * up e * 1) (1 * 2 ^ 31 * down e) h) in
    omega (arith, (le-div_iff_mul-le (down_pos e)).1 k)

-- ---- `ceiling`

-- a truncated quotient is no more than one rounded up
quotients : (a d : ℕ) → 0 < d → a / d ≤ (a + (d - 1)) / d
quotients a d p = (le-div_iff_mul-le p).1 (let h : a / d * d ≤ a = (le-div_iff_mul-le p).0 (omega arith) in omega arith)

pub truncate-le : (x : Float) → truncate x ≤ ceiling x
unfolding to_signed truncate ceiling
truncate-le nan = omega arith
truncate-le (inf true) = omega arith
truncate-le (inf false) = omega arith
truncate-le (fin true m e) = omega (arith, natural_neg (min (m * up e / down e) (2 ^ 31)))
truncate-le (fin false m e) = omega (arith, quotients (m * up e) (down e) (down_pos e))

-- a whole number below 512 is a float as it stands
value_of : (n : ℕ) → n < 512 → HasValue (of_int binary32 (pos n)) false n 1
unfolding of_int
value_of n h =
    round_exact binary32 false n 1 n 149 (omega arith) (omega arith)
    (lt_of_lt_of_le (mul-lt-mul_of_pos_right h (pow_pos 149)) (leb→le (512 * 2 ^ 149) (2 ^ 277) tt))
    (sym (mul-one (n * 2 ^ 149)))

-- a whole number is below no NaN, not below -∞, and below no number with the sign set
below_none : (y : Float) (n : ℕ) → HasValue y false n 1 → (lt y nan ≡ false) × (lt y (inf true) ≡ false) × ((m : ℕ) (e : ℤ) → lt y (fin true m e) ≡ false)
unfolding lt
below_none nan n v = absurd v
below_none (inf s) n v = absurd v
below_none (fin true a b) n v = clash v.0
below_none (fin false a b) n v = (refl, refl, λ m e. refl)

-- compared with the whole number n, by a common denominator
below_of : (y : Float) (n m : ℕ) (e : ℤ) → HasValue y false n 1 → lt y (fin false m e) ≡ true → n * down e < m * up e
unfolding lt
below_of nan n m e v h = absurd v
below_of (inf s) n m e v h = absurd v
below_of (fin true a b) n m e v h = clash v.0
below_of (fin false a b) n m e v h =
    let g : a * up b ≡ n * down b = omega (arith, v.1) in
    let k : a * up b * down e < m * up e * down b = ltb-true _ _ h in
    lt_of_mul-lt-mul_right (down b) (rw (mul_right_comm n (down e) (down b), ← g) k)

above_of : (y : Float) (n m : ℕ) (e : ℤ) → HasValue y false n 1 → lt y (fin false m e) ≡ false → m * up e ≤ n * down e
unfolding lt
above_of nan n m e v h = absurd v
above_of (inf s) n m e v h = absurd v
above_of (fin true a b) n m e v h = clash v.0
above_of (fin false a b) n m e v h =
    let g : a * up b ≡ n * down b = omega (arith, v.1) in
    let k : m * up e * down b ≤ a * up b * down e = ltb-false _ _ h in
    le_of_mul-le-mul_right (rw (mul_right_comm n (down e) (down b), ← g) k) (down_pos b)

-- t is x truncated: where t is below x, x is rounded up to the next
pub ceiling_next : (x : Float) (t : ℕ) → t ≡ truncate x → t < 512 → lt (of_int binary32 (pos t)) x ≡ true → t + 1 ≡ ceiling x
unfolding to_signed truncate ceiling
ceiling_next nan t is h g = clash (sym g ∙ (below_none (of_int binary32 (pos t)) t (value_of t h)).0)
ceiling_next (inf true) t is h g = clash (sym g ∙ (below_none (of_int binary32 (pos t)) t (value_of t h)).1)
ceiling_next (inf false) t is h g = absurd (omega arith)
ceiling_next (fin true m e) t is h g = clash (sym g ∙ (below_none (of_int binary32 (pos t)) t (value_of t h)).2 m e)
ceiling_next (fin false m e) t is h g =
    let w : t * down e < m * up e = below_of (of_int binary32 (pos t)) t m e (value_of t h) g in
    let p = down_pos e in
    let a : m * up e < (t + 1) * down e = (div-lt_iff_lt-mul p).0 (omega arith) in
    let lo : t + 1 ≤ (m * up e + (down e - 1)) / down e = (le-div_iff_mul-le p).1 (omega (arith, add-mul t 1 (down e))) in
    let hi : (m * up e + (down e - 1)) / down e < t + 2 = (div-lt_iff_lt-mul p).1 (omega (arith, add-mul t 1 (down e), add-mul t 2 (down e))) in
    omega arith

-- else x is that number, or no number above 0
pub ceiling_same : (x : Float) (t : ℕ) → t ≡ truncate x → t < 512 → lt (of_int binary32 (pos t)) x ≡ false → t ≡ ceiling x
unfolding to_signed truncate ceiling
ceiling_same nan t is h g = is
ceiling_same (inf true) t is h g = is
ceiling_same (inf false) t is h g = absurd (omega arith)
ceiling_same (fin true m e) t is h g = is ∙ natural_neg (min (m * up e / down e) (2 ^ 31))
ceiling_same (fin false m e) t is h g =
    let w : m * up e ≤ t * down e = above_of (of_int binary32 (pos t)) t m e (value_of t h) g in
    let p = down_pos e in
    let lo = quotients (m * up e) (down e) p in
    let hi : (m * up e + (down e - 1)) / down e < t + 1 = (div-lt_iff_lt-mul p).1 (omega (arith, add-mul t 1 (down e))) in
    omega arith
