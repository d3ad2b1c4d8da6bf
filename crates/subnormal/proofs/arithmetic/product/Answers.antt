-- `subnormal::arithmetic::product` meets its contract. Assumes nothing.
use mathlib.Core.Bool.{and-eq-true_iff}
use Rattle.std.proofs.lemmas.Float.{T_from_true, not_nan_f32_bits}
use mathlib.Core.Path.{◌≡◌, sym, ap, ◌∙◌, subst}
use mathlib.Core.Bool.{true}
use Prim.Native.Nat.{ℕ, ◌+◌, ◌-◌, ◌*◌, ◌^◌, ◌≤◌, ◌<◌}
use native.Mathlib.Omega.{arith}
use lib.Dec.{T}
use lib.Ieee.{Float, binary32, lt, fits, of_bits, to_bits}
use lib.Ieee.Bits.{to_bits-lt}
use Rattle.float.specs.Arithmetic.{0f, ◌*f◌}
use Rattle.subnormal.specs.Parts.{significand_of, exponent_of}
use Rattle.subnormal.specs.Packing.{pattern}
use Rattle.subnormal.proofs.Apart.{Parts, parts_of}
use Rattle.subnormal.proofs.Products.{p-lt, product_is}
use Rattle.subnormal.proofs.arithmetic.product.Goals as goal

finite : (a b : ℕ) → exponent_of a + exponent_of b ≤ 150 → (a < 0x7f80_0000) × (b < 0x7f80_0000)
finite a b h = (omega arith, omega arith)

-- both factors above 0, and their exponents as the code has them
module _ (x y : Float) (F : T (fits binary32 x)) (G : T (fits binary32 y)) (p : lt 0f x ≡ true) (q : lt 0f y ≡ true) (small : exponent_of (to_bits binary32 x) + exponent_of (to_bits binary32 y) ≤ 150) where
  parts-x : Parts x
  parts-x = parts_of x F p (finite (to_bits binary32 x) (to_bits binary32 y) small).0

  parts-y : Parts y
  parts-y = parts_of y G q (finite (to_bits binary32 x) (to_bits binary32 y) small).1

  few : (m n : ℕ) → m ≡ significand_of (to_bits binary32 x) → n ≡ significand_of (to_bits binary32 y) → 2 * (m * n) < 2 ^ 49
  few m n d e = rw (d, e) (p-lt x y parts-x parts-y small)

  made : (e f m n : ℕ) → e ≡ exponent_of (to_bits binary32 x) → f ≡ exponent_of (to_bits binary32 y) → m ≡ significand_of (to_bits binary32 x) → n ≡ significand_of (to_bits binary32 y) → of_bits binary32 (pattern (2 * (m * n)) (216 - (e + f))) ≡ x *f y
  made e f m n a b c d = subst (λ (i : ℕ). of_bits binary32 (pattern (2 * (m * n)) (216 - (i + f))) ≡ x *f y) (sym a)
      (subst (λ (i : ℕ). of_bits binary32 (pattern (2 * (m * n)) (216 - (exponent_of (to_bits binary32 x) + i))) ≡ x *f y) (sym b)
      (subst (λ (i : ℕ). of_bits binary32 (pattern (2 * (i * n)) (216 - (exponent_of (to_bits binary32 x) + exponent_of (to_bits binary32 y)))) ≡ x *f y) (sym c)
      (subst (λ (i : ℕ). of_bits binary32 (pattern (2 * (significand_of (to_bits binary32 x) * i)) (216 - (exponent_of (to_bits binary32 x) + exponent_of (to_bits binary32 y)))) ≡ x *f y) (sym d)
      (product_is x y parts-x parts-y small))))

pub overflow_add-e : goal.overflow_add-e
overflow_add-e c =
    let e = c.exponent.ensures in let f = c.exponent-2.ensures in let g = to_bits-lt binary32 c.args.x (T_from_true _ c.well_formed.0.1) in let h = to_bits-lt binary32 c.args.y (T_from_true _ c.well_formed.1.0.1) in omega arith

pub float_from_bits-result : goal.float_from_bits-result
float_from_bits-result c =
    not_nan_f32_bits c.packed.result (let h = c.packed.ensures.upper_bound in omega arith)

pub returns : goal.returns
returns c =
    let t = (and-eq-true_iff (lt 0f c.args.x) (lt 0f c.args.y)).0 c.if-not-x-y.false in
    let small : exponent_of (to_bits binary32 c.args.x) + exponent_of (to_bits binary32 c.args.y) ≤ 150 = omega (arith, c.exponent.ensures, c.exponent-2.ensures, c.if-e-gt150.false) in
    ap (λ (i : ℕ). of_bits binary32 i) c.packed.ensures.value
    ∙ made c.args.x c.args.y (T_from_true _ c.well_formed.0.1) (T_from_true _ c.well_formed.1.0.1) t.0 t.1 small c.exponent.result c.exponent-2.result c.significand.result c.significand-2.result c.exponent.ensures c.exponent-2.ensures c.significand.ensures c.significand-2.ensures
