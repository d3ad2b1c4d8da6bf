-- A zero times a positive finite float is that zero. Assumes nothing.
use Rattle.std.proofs.lemmas.Float.{T_from_true}
use mathlib.Core.Path.{◌≡◌, refl, sym, ap, ◌∙◌, subst}
use mathlib.Core.Bool.{Bool, true, false, ◌&&◌, ◌||◌, beq, true≢false}
use Prim.Native.Nat.{ℕ, zero, suc, ◌*◌, ◌^◌, ◌<◌}
use native.Mathlib.Nat.{lt_irrefl, zero-lt-suc, mul-one, mul-zero, zero-mul, mul-pos, pow-succ'}
use native.Mathlib.Omega.{arith}
use lib.Dec.{T, eqb, eqb→eq}
use lib.IntN.{ℤ, pos, negsuc}
use lib.Ieee.{Float, nan, inf, fin, binary32, up, down, round, mul, lt, eq, fits, of_bits}
use lib.Ieee.Fits.{up_pos, down_pos, and_l}
use lib.Ieee.Scale.{round_same}
use Rattle.float.specs.Arithmetic.{◌*f◌, 0f, 1f}

-- ---- a zero that fits has one form

-- a power of two that is 1
uneven : (x y : ℕ) → x ≡ 2 * y → x ≡ 1 → ⊥
uneven x y e f = omega arith

flat : (e : ℤ) → T (eqb (up e * down e) 1) → e ≡ pos 0
flat (pos zero) t = refl
flat (pos (suc k)) t = absurd (uneven (2 ^ suc k) (2 ^ k) (pow-succ' 2 k) (sym (mul-one (2 ^ suc k)) ∙ eqb→eq (2 ^ suc k * 1) 1 t))
flat (negsuc k) t = absurd (uneven (1 * 2 ^ suc k) (2 ^ k) (one (2 ^ suc k) ∙ pow-succ' 2 k) (eqb→eq (1 * 2 ^ suc k) 1 t))
  where
    one : (i : ℕ) → 1 * i ≡ i
    one i = omega arith

abbrev Zero : Float → Type 0
Zero y = (t : Bool) × (y ≡ fin t 0 (pos 0))

some : (n : ℕ) (d : ℤ) → suc n * up d * 1 ≡ 0 * 1 * down d → ⊥
some n d e = lt_irrefl 0 (subst (λ (i : ℕ). 0 < i) (sym (mul-one (suc n * up d)) ∙ e ∙ zero-mul (down d)) (mul-pos (zero-lt-suc n) (up_pos d)))

zero_form : (y : Float) → T (fits binary32 y) → eq y 0f ≡ true → Zero y
unfolding eq fits of_bits
zero_form nan F e = absurd (true≢false (sym e))
zero_form (inf s) F e = absurd (true≢false (sym e))
zero_form (fin t zero d) F e = (t, ap (λ (i : ℤ). fin t 0 i) (flat d F))
zero_form (fin t (suc n) d) F e =
    absurd (some n d (eqb→eq (suc n * up d * 1) (0 * 1 * down d) (and_l (eqb (suc n * up d * 1) (0 * 1 * down d)) (beq t false || eqb (suc n * up d * 1) 0) (T_from_true _ e))))

-- ---- what is above 0 and below 1 is finite and has no sign

abbrev Plain : Float → Type 0
Plain x = (m : ℕ) × (e : ℤ) × (x ≡ fin false m e)

plain_form : (x : Float) → lt 0f x ≡ true → lt x 1f ≡ true → Plain x
unfolding lt of_bits
plain_form nan p q = absurd (true≢false (sym p))
plain_form (inf true) p q = absurd (true≢false (sym p))
plain_form (inf false) p q = absurd (true≢false (sym q))
plain_form (fin true m e) p q = absurd (true≢false (sym p))
plain_form (fin false m e) p q = (m, e, refl)

-- ---- the products

no_size : (t : Bool) → round binary32 t 0 1 ≡ fin t 0 (pos 0)
unfolding round
no_size t = refl

rounded : (t : Bool) (a c : ℕ) → 0 < c → a ≡ 0 → round binary32 t a c ≡ fin t 0 (pos 0)
rounded t a c C e = round_same binary32 t a c 0 1 C (zero-lt-suc 0) (mul-one a ∙ e ∙ sym (zero-mul c)) ∙ no_size t

right : (m : ℕ) (e : ℤ) (t : Bool) → fin false m e *f fin t 0 (pos 0) ≡ fin t 0 (pos 0)
unfolding mul
right m e true = rounded true (m * up e * (0 * 1)) (down e * 1) (mul-pos (down_pos e) (zero-lt-suc 0)) (mul-zero (m * up e))
right m e false = rounded false (m * up e * (0 * 1)) (down e * 1) (mul-pos (down_pos e) (zero-lt-suc 0)) (mul-zero (m * up e))

left : (m : ℕ) (e : ℤ) (t : Bool) → fin t 0 (pos 0) *f fin false m e ≡ fin t 0 (pos 0)
unfolding mul
left m e true = rounded true (0 * 1 * (m * up e)) (1 * down e) (mul-pos (zero-lt-suc 0) (down_pos e)) (zero-mul (m * up e))
left m e false = rounded false (0 * 1 * (m * up e)) (1 * down e) (mul-pos (zero-lt-suc 0) (down_pos e)) (zero-mul (m * up e))

pub zero_right : (x y : Float) → T (fits binary32 y) → eq y 0f ≡ true → lt 0f x ≡ true → lt x 1f ≡ true → y ≡ x *f y
zero_right x y F e p q =
    let z = zero_form y F e in
    let a = plain_form x p q in
    z.1 ∙ sym (right a.0 a.1 z.0) ∙ ap (λ (i : Float). i *f fin z.0 0 (pos 0)) (sym a.2) ∙ ap (λ (i : Float). x *f i) (sym z.1)

pub zero_left : (x y : Float) → T (fits binary32 x) → eq x 0f ≡ true → lt 0f y ≡ true → lt y 1f ≡ true → x ≡ x *f y
zero_left x y F e p q =
    let z = zero_form x F e in
    let a = plain_form y p q in
    z.1 ∙ sym (left a.0 a.1 z.0) ∙ ap (λ (i : Float). fin z.0 0 (pos 0) *f i) (sym a.2) ∙ ap (λ (i : Float). i *f y) (sym z.1)

-- three tests that pass
pub all_three : (a b c : Bool) → (a && b && c) ≡ true → (a ≡ true) × (b ≡ true) × (c ≡ true)
all_three true true true e = (refl, refl, refl)
all_three true true false e = absurd (true≢false (sym e))
all_three true false c e = absurd (true≢false (sym e))
all_three false b c e = absurd (true≢false (sym e))
