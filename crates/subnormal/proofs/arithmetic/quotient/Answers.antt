-- `subnormal::arithmetic::quotient` meets its contract. Assumes nothing.
use mathlib.Core.Bool.{and-eq-true_iff}
use Rattle.std.proofs.lemmas.Float.{T_from_true, not_nan_f32_bits}
use mathlib.Core.Path.{◌≡◌, refl, sym, ap, ◌∙◌, subst}
use mathlib.Core.Bool.{Bool, true, false, ◌||◌, true≢false}
use Prim.Native.Nat.{ℕ, ◌+◌, ◌-◌, ◌*◌, ◌%◌, ◌^◌, ◌≤◌, ◌<◌, max}
use native.Mathlib.Nat.{lt_of_lt_of_le, mod-eq_of_lt}
use native.Mathlib.Omega.{arith}
use lib.Dec.{T, lit≤}
use lib.Count.{count_leading_zeros, leading_le}
use borrow.Author.Tests.{ltb-false}
use lib.Ieee.{Float, binary32, size, lt, fits, of_bits, to_bits}
use lib.Ieee.Bits.{to_bits-lt}
use Rattle.float.specs.Arithmetic.{0f, ◌/f◌}
use Rattle.subnormal.specs.Parts.{significand_of, exponent_of}
use Rattle.subnormal.specs.Packing.{halves, pattern}
use Rattle.subnormal.proofs.Apart.{Parts, parts_of, from, significand_lt, zeros_ge}
use Rattle.subnormal.proofs.Quotients.{n-lt, h_lt, h_long, quotient_is}
use Rattle.subnormal.proofs.arithmetic.quotient.Goals as goal

abbrev raise : ℕ → ℕ
raise m = count_leading_zeros 64 m - 40

none_of : (a b d : Bool) → (a || b || d) ≡ false → (a ≡ false) × (b ≡ false) × (d ≡ false)
none_of false false false e = (refl, refl, refl)
none_of false false true e = absurd (true≢false e)
none_of false true d e = absurd (true≢false e)
none_of true b d e = absurd (true≢false e)

finite : (a b z : ℕ) → z ≤ 64 → b ≤ 0x7f7f_ffff → exponent_of a + 59 ≤ exponent_of b + (z - 40) → (a < 0x7f80_0000) × (b < 0x7f80_0000) × (exponent_of b ≤ 254)
finite a b z l h o = (omega arith, omega arith, omega arith)

long : (z t : ℕ) → 25 < z → 65 ≤ max (z + 40) t
long z t h = omega arith

-- what is divided
abbrev n-of : ℕ → ℕ
n-of m = m * 2 ^ (raise m + 25)

-- both above 0, and the quotient small
module _ (x y : Float) (F : T (fits binary32 x)) (G : T (fits binary32 y)) (p : lt 0f x ≡ true) (q : lt 0f y ≡ true) (normal : 2 ^ 23 ≤ to_bits binary32 y) (below : to_bits binary32 y ≤ 0x7f7f_ffff) (order : exponent_of (to_bits binary32 x) + 59 ≤ exponent_of (to_bits binary32 y) + raise (significand_of (to_bits binary32 x))) where
  abbrev mx : ℕ
  mx = significand_of (to_bits binary32 x)

  abbrev my : ℕ
  my = significand_of (to_bits binary32 y)

  abbrev ex : ℕ
  ex = exponent_of (to_bits binary32 x)

  abbrev ey : ℕ
  ey = exponent_of (to_bits binary32 y)

  lead : 2 ^ 23 ≤ my
  lead = let e = from (to_bits binary32 y) normal in omega arith

  in-range : (to_bits binary32 x < 0x7f80_0000) × (to_bits binary32 y < 0x7f80_0000) × (ey ≤ 254)
  in-range = finite (to_bits binary32 x) (to_bits binary32 y) (count_leading_zeros 64 mx) (leading_le 64 mx) below order

  parts-x : Parts x
  parts-x = parts_of x F p in-range.0

  parts-y : Parts y
  parts-y = parts_of y G q in-range.1

  n-few : n-of mx < 2 ^ 49
  n-few = n-lt x y parts-x parts-y lead

  n-is : (m : ℕ) → m ≡ mx → n-of m % 2 ^ 64 ≡ n-of mx
  n-is m e = ap (λ (i : ℕ). n-of i % 2 ^ 64) e ∙ mod-eq_of_lt (lt_of_lt_of_le n-few (lit≤ tt))

  n-bound : (m : ℕ) → m ≡ mx → n-of m % 2 ^ 64 < 2 ^ 62
  n-bound m e = subst (λ (i : ℕ). i < 2 ^ 62) (sym (n-is m e)) (lt_of_lt_of_le n-few (lit≤ tt))

  divided-is : (m n r : ℕ) → m ≡ mx → n ≡ my → r ≡ halves (n-of m % 2 ^ 64) n → r ≡ halves (n-of mx) my
  divided-is m n r a b c = c ∙ ap (λ (i : ℕ). halves i n) (n-is m a) ∙ ap (λ (i : ℕ). halves (n-of mx) i) b

  few : (m n r : ℕ) → m ≡ mx → n ≡ my → r ≡ halves (n-of m % 2 ^ 64) n → r < 2 ^ 50
  few m n r a b c = subst (λ (i : ℕ). i < 2 ^ 50) (sym (divided-is m n r a b c)) (lt_of_lt_of_le (h_lt x y parts-x parts-y lead) (lit≤ tt))

  many : (m n r t : ℕ) → m ≡ mx → n ≡ my → r ≡ halves (n-of m % 2 ^ 64) n → 65 ≤ max (size r + 40) t
  many m n r t a b c = subst (λ (i : ℕ). 65 ≤ max (size i + 40) t) (sym (divided-is m n r a b c)) (long _ t (h_long x y parts-x parts-y lead))

  made : (m n r e f : ℕ) → m ≡ mx → n ≡ my → r ≡ halves (n-of m % 2 ^ 64) n → e ≡ ex → f ≡ ey → of_bits binary32 (pattern r (f + raise m - (e + 59))) ≡ x /f y
  made m n r e f a b c d g =
      ap (λ (i : ℕ). of_bits binary32 i)
      (ap (λ (i : ℕ). pattern i (f + raise m - (e + 59))) (divided-is m n r a b c)
      ∙ ap (λ (i : ℕ). pattern (halves (n-of mx) my) (f + raise i - (e + 59))) a
      ∙ ap (λ (i : ℕ). pattern (halves (n-of mx) my) (i + raise mx - (e + 59))) g
      ∙ ap (λ (i : ℕ). pattern (halves (n-of mx) my) (ey + raise mx - (i + 59))) d)
      ∙ quotient_is x y parts-x parts-y lead order in-range.2

ordered : (m mx e f ex ey : ℕ) → m ≡ mx → e ≡ ex → f ≡ ey → e + 59 ≤ f + raise m → ex + 59 ≤ ey + raise mx
ordered m mx e f ex ey a b c h = subst (λ (i : ℕ). ex + 59 ≤ ey + raise i) a (omega arith)

pub overflow_sub-up : goal.overflow_sub-up
overflow_sub-up c =
    subst (λ (i : ℕ). 40 ≤ count_leading_zeros 64 i) (sym c.significand-m.ensures) (zeros_ge _ (significand_lt (to_bits binary32 c.args.x)))

pub overflow_add-from : goal.overflow_add-from
overflow_add-from c =
    let e = c.exponent-from.ensures in let l = to_bits-lt binary32 c.args.x (T_from_true _ c.well_formed.0.1) in omega arith

pub overflow_add-to : goal.overflow_add-to
overflow_add-to c =
    let e = c.exponent.ensures in let l = to_bits-lt binary32 c.args.y (T_from_true _ c.well_formed.1.0.1) in let z = leading_le 64 c.significand-m.result in omega arith

pub divided-requires-clause-n_bound : goal.divided-requires-clause-n_bound
divided-requires-clause-n_bound c =
    let t = (and-eq-true_iff (lt 0f c.args.x) (lt 0f c.args.y)).0 c.if-not-x-y.false in
    let u = none_of _ _ _ c.if-b-to.false in
    n-bound c.args.x c.args.y (T_from_true _ c.well_formed.0.1) (T_from_true _ c.well_formed.1.0.1) t.0 t.1 (ltb-false _ _ u.0) (ltb-false _ _ u.1) (ordered _ _ _ _ _ _ c.significand-m.ensures c.exponent-from.ensures c.exponent.ensures (ltb-false _ _ u.2)) c.significand-m.result c.significand-m.ensures

pub packed-requires-clause-bound : goal.packed-requires-clause-bound
packed-requires-clause-bound c =
    let t = (and-eq-true_iff (lt 0f c.args.x) (lt 0f c.args.y)).0 c.if-not-x-y.false in
    let u = none_of _ _ _ c.if-b-to.false in
    many c.args.x c.args.y (T_from_true _ c.well_formed.0.1) (T_from_true _ c.well_formed.1.0.1) t.0 t.1 (ltb-false _ _ u.0) (ltb-false _ _ u.1) (ordered _ _ _ _ _ _ c.significand-m.ensures c.exponent-from.ensures c.exponent.ensures (ltb-false _ _ u.2)) c.significand-m.result c.significand.result c.divided.result _ c.significand-m.ensures c.significand.ensures c.divided.ensures

pub float_from_bits-result : goal.float_from_bits-result
float_from_bits-result c =
    not_nan_f32_bits c.packed.result (let h = c.packed.ensures.upper_bound in omega arith)

pub returns : goal.returns
returns c =
    let t = (and-eq-true_iff (lt 0f c.args.x) (lt 0f c.args.y)).0 c.if-not-x-y.false in
    let u = none_of _ _ _ c.if-b-to.false in
    ap (λ (i : ℕ). of_bits binary32 i) c.packed.ensures.value
    ∙ made c.args.x c.args.y (T_from_true _ c.well_formed.0.1) (T_from_true _ c.well_formed.1.0.1) t.0 t.1 (ltb-false _ _ u.0) (ltb-false _ _ u.1) (ordered _ _ _ _ _ _ c.significand-m.ensures c.exponent-from.ensures c.exponent.ensures (ltb-false _ _ u.2)) c.significand-m.result c.significand.result c.divided.result c.exponent-from.result c.exponent.result c.significand-m.ensures c.significand.ensures c.divided.ensures c.exponent-from.ensures c.exponent.ensures
