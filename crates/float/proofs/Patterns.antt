-- The bit patterns of the positive finite values of binary32, and what `square_root` is at each. Assumes nothing.
use Rattle.std.proofs.Common.{◌≡◌, ℕ, zero, suc, ◌+◌, ◌-◌, ◌*◌, ◌/◌, ◌%◌, ◌^◌, ◌<◌, ◌≤◌, Bool, true, false, cond, T, eqb, ltb, leb, ℤ, sym, refl, ap, ◌∙◌, subst, true≢false, lt_of_lt_of_le, lt_irrefl, mod-eq_of_lt, mul_assoc, mul-le-mul, mul-pos, zero-mul, not-le_of_lt, mul-div_cancel, mul_left_comm, arith, eqb→eq, lt→ltb, leb→le, pow_pos, pow_mono, pow-add, shl_lt}
use native.Mathlib.Nat.{pow-succ'}
use lib.Dec.{not_T}
use lib.Count.{count_trailing_zeros, under}
use lib.Ieee.{Float, nan, inf, fin, binary32, up, down, minus, odd, units, of_fields, of_bits}
use lib.Ieee.Bits.{is_true, is_false, cond_no}
use lib.Ieee.Exact.{HasValue, odd_sign}
use lib.Ieee.Fits.{down_pos}
use Rattle.float.specs.Root.{square_root, root_of}
use Rattle.float.specs.RootSteps.{Scaled, Rounded}
use Rattle.float.proofs.Roots.{root_of_lem}

-- ---- what a pattern without a sign is read as

pub of_bits_is : (b : ℕ) → of_bits binary32 b ≡ of_fields binary32 (leb 2147483648 b) (b % 2147483648 / 8388608) (b % 8388608)
unfolding of_bits
of_bits_is b = refl

pub sign_clear : (b : ℕ) → b < 2147483648 → of_bits binary32 b ≡ of_fields binary32 false (b / 8388608) (b % 8388608)
sign_clear b u =
    of_bits_is b
    ∙ ap (λ (s : Bool). of_fields binary32 s (b % 2147483648 / 8388608) (b % 8388608)) (is_false (leb 2147483648 b) (not_T (leb 2147483648 b) (λ (t : T (leb 2147483648 b)). not-le_of_lt u (leb→le 2147483648 b t))))
    ∙ ap (λ (x : ℕ). of_fields binary32 false (x / 8388608) (b % 8388608)) (mod-eq_of_lt u)

at_zero : (t : ℕ) → of_fields binary32 false 0 t ≡ odd 24 false t 0 149
unfolding of_fields
at_zero t = refl

under_ones : (t x : ℕ) → suc x < 255 → of_fields binary32 false (suc x) t ≡ odd 24 false (8388608 + t) x 149
unfolding of_fields
under_ones t x h = cond_no (eqb (suc x) 255) (cond (eqb t 0) (inf false) nan) (odd 24 false (8388608 + t) x 149) (not_T (eqb (suc x) 255) (λ (u : T (eqb (suc x) 255)). differ (eqb→eq (suc x) 255 u)))
  where
    differ : suc x ≡ 255 → ⊥
    differ e = omega arith

pub small : (b : ℕ) → b < 8388608 → of_bits binary32 b ≡ odd 24 false b 0 149
small b u =
    sign_clear b (omega arith)
    ∙ ap (λ (x : ℕ). of_fields binary32 false x (b % 8388608)) field
    ∙ ap (λ (t : ℕ). of_fields binary32 false 0 t) (mod-eq_of_lt u)
    ∙ at_zero b
  where
    field : b / 8388608 ≡ 0
    field = omega arith

pub normal : (b : ℕ) → 8388608 ≤ b → b < 2139095040 → of_bits binary32 b ≡ odd 24 false (8388608 + b % 8388608) (b / 8388608 - 1) 149
normal b l u =
    sign_clear b (omega arith)
    ∙ ap (λ (x : ℕ). of_fields binary32 false x (b % 8388608)) field
    ∙ under_ones (b % 8388608) (b / 8388608 - 1) (omega arith)
  where
    field : b / 8388608 ≡ suc (b / 8388608 - 1)
    field = omega arith

-- ---- `square_root` sees only the value

-- a zero has no value above 0
pub no_value : (e : ℤ) (a : ℕ) → 0 * up e * 2 ^ 149 ≡ a * down e → 0 < a → ⊥
no_value e a v p = lt_irrefl 0 (subst (λ (x : ℕ). 0 < x) (sym v ∙ ap (λ (y : ℕ). y * 2 ^ 149) (zero-mul (up e)) ∙ zero-mul (2 ^ 149)) (mul-pos p (down_pos e)))

pub sqrt_of_value : (x : Float) (a : ℕ) → HasValue x false a (2 ^ 149) → 0 < a → square_root x ≡ root_of a
unfolding square_root
sqrt_of_value nan a v p = absurd v
sqrt_of_value (inf s) a v p = absurd v
sqrt_of_value (fin true m e) a v p = absurd (true≢false v.0)
sqrt_of_value (fin false zero e) a v p = absurd (no_value e a v.1 p)
sqrt_of_value (fin false (suc m) e) a v p = ap (λ (n : ℕ). root_of n) (ap (λ (x : ℕ). x / down e) v.1 ∙ mul-div_cancel a (down_pos e))

pub sqrt_of_odd : (x : Float) (q k : ℕ) → x ≡ odd 24 false q k 149 → 0 < q → square_root x ≡ root_of (q * 2 ^ k)
sqrt_of_odd x q k e p = sqrt_of_value x (q * 2 ^ k) (subst (λ (w : Float). HasValue w false (q * 2 ^ k) (2 ^ 149)) (sym e) (odd_sign 24 false q k 149)) (mul-pos p (pow_pos k))

-- ---- `units` with a q of 24 digits is what `of_bits` reads

tz_more : (d q : ℕ) → 0 < q → q < 2 ^ d → count_trailing_zeros (suc d) q ≡ count_trailing_zeros d q
unfolding count_trailing_zeros
tz_more zero q p h = absurd (none q p h)
  where
    none : (a : ℕ) → 0 < a → a < 1 → ⊥
    none a x y = omega arith
tz_more (suc d) q p h = go (q % 2) refl (λ (e : q % 2 ≡ 0). tz_more d (q / 2) (half e) (lower (2 ^ d) (subst (λ (x : ℕ). q < x) (pow-succ' 2 d) h)))
  where
    half : q % 2 ≡ 0 → 0 < q / 2
    half e = omega arith

    lower : (x : ℕ) → q < 2 * x → q / 2 < x
    lower x g = omega arith

    go : (r : ℕ) → q % 2 ≡ r → (q % 2 ≡ 0 → count_trailing_zeros (suc d) (q / 2) ≡ count_trailing_zeros d (q / 2)) → under r (count_trailing_zeros (suc d) (q / 2)) ≡ under r (count_trailing_zeros d (q / 2))
    go zero e ih = ap suc (ih e)
    go (suc r) e ih = refl

odd_more : (q k : ℕ) → 0 < q → q < 2 ^ 24 → odd 25 false q k 149 ≡ odd 24 false q k 149
unfolding odd
odd_more zero k p h = absurd (lt_irrefl 0 p)
odd_more (suc q) k p h = ap (λ (t : ℕ). fin false (suc q / 2 ^ t) (minus (k + t) 149)) (tz_more 24 (suc q) p h)

pub units_is : (q k : ℕ) → 0 < q → q < 2 ^ 24 → k ≤ 253 → units binary32 false q k ≡ odd 24 false q k 149
unfolding units
units_is q k p h l =
    ap (λ (b : Bool). cond b (odd 25 false q k 149) (inf false)) (is_true (ltb (q * 2 ^ k) (2 ^ 277)) (lt→ltb (q * 2 ^ k) (2 ^ 277) (lt_of_lt_of_le (shl_lt 24 k h) (pow_mono (room k l)))))
    ∙ odd_more q k p h
  where
    room : (a : ℕ) → a ≤ 253 → 24 + a ≤ 277
    room a g = omega arith

-- ---- the pattern that `rounded` returns is the root's

-- sig * 2 ^ (21 + e) is X * 4 ^ k, with an X of 47 or 48 bits
module _ (sig e : ℕ) (pre : Scaled sig e) where
  abbrev pub X : ℕ
  X = sig * 2 ^ (23 + e % 2)

  abbrev pub k : ℕ
  k = e / 2 - 1

  pub four : 4 * X ≡ sig * 2 ^ (25 + e % 2)
  four = mul_left_comm 4 sig (2 ^ (23 + e % 2)) ∙ ap (λ (x : ℕ). sig * x) (sym (pow-add 2 2 (23 + e % 2)) ∙ ap (λ (x : ℕ). 2 ^ x) (up_two (e % 2)))
    where
      up_two : (a : ℕ) → 2 + (23 + a) ≡ 25 + a
      up_two a = omega arith

  pub X_ge : 2 ^ 46 ≤ X
  X_ge = mul-le-mul {n₁ = 2 ^ 23} {m₁ = 2 ^ 23} pre.0 (pow_mono {i = 23} {j = 23 + e % 2} (omega arith))

  pub X_lt : X < 2 ^ 48
  X_lt = lt_of_lt_of_le (shl_lt 24 (23 + e % 2) pre.1) (pow_mono {i = 24 + (23 + e % 2)} {j = 48} (omega arith))

  pub split : sig * 2 ^ (21 + e) ≡ X * (2 ^ k * 2 ^ k)
  split =
      ap (λ (x : ℕ). sig * 2 ^ x) exps
      ∙ ap (λ (x : ℕ). sig * x) (pow-add 2 (23 + e % 2) (k + k) ∙ ap (λ (x : ℕ). 2 ^ (23 + e % 2) * x) (pow-add 2 k k))
      ∙ sym (mul_assoc sig (2 ^ (23 + e % 2)) (2 ^ k * 2 ^ k))
    where
      exps : 21 + e ≡ 23 + e % 2 + (k + k)
      exps = omega arith

module _ (sig e : ℕ) (pre : Scaled sig e) (r : ℕ) (is : Rounded sig e r) where
  abbrev q : ℕ
  q = 2 ^ 23 + r % 2 ^ 23

  r_field : r / 2 ^ 23 ≡ e / 2
  r_field = is.field

  pub r_lt : r < 2139095040
  r_lt = let h = r_field in omega arith

  r_ge : 8388608 ≤ r
  r_ge = let h = r_field in omega arith

  pub root_pattern : (n : ℕ) → n * 2 ^ 149 ≡ sig * 2 ^ (21 + e) → of_bits binary32 r ≡ root_of n
  root_pattern n at =
      normal r r_ge r_lt
      ∙ ap (λ (x : ℕ). odd 24 false q (x - 1) 149) r_field
      ∙ sym (units_is q (e / 2 - 1) (omega arith) (omega arith) (omega arith))
      ∙ sym (root_of_lem n (sig * 2 ^ (23 + e % 2)) (e / 2 - 1) q (at ∙ split sig e pre) (X_ge sig e pre) (X_lt sig e pre) (subst (λ (x : ℕ). (2 * q - 1) * (2 * q - 1) ≤ x) (sym (four sig e pre)) is.above) (subst (λ (x : ℕ). x < (2 * q + 1) * (2 * q + 1)) (sym (four sig e pre)) is.below))
