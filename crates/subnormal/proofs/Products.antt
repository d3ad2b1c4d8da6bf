-- The product of two positive floats, by their parts: the pattern that `product` packs is that of `mul`. Assumes nothing.
use mathlib.Core.Path.{◌≡◌, sym, ap, ◌∙◌, subst}
use mathlib.Core.Bool.{false}
use Prim.Native.Nat.{ℕ, suc, ◌+◌, ◌-◌, ◌*◌, ◌^◌, ◌≤◌, ◌<◌}
use native.Mathlib.Nat.{le_trans, le_of_eq, one-mul, mul-one, mul_comm, mul_assoc, mul_left_comm, mul-pos, pow-succ'}
use native.Mathlib.Omega.{arith}
use lib.Pow.{pow_pos, pow-add}
use lib.Ieee.{Float, binary32, size, of_bits, to_bits}
use lib.Ieee.Digits.{size-lt, size-le, size_reaches}
use lib.Ieee.Nearest.{closest}
use lib.Ieee.Positive.{mul_at}
use lib.Ieee.Scale.{round_same}
use Rattle.float.specs.Arithmetic.{◌*f◌}
use Rattle.float.proofs.Numbers.{mul-lt-pow}
use Rattle.subnormal.specs.Parts.{significand_of, exponent_of}
use Rattle.subnormal.specs.Packing.{dropped, pattern}
use Rattle.subnormal.proofs.Apart.{Parts, digits_over, exponent_pos}
use Rattle.subnormal.proofs.Packed.{packs}

-- ---- the product: ma * mb * 2 ^ (ea + eb - 2) over 2 ^ 298, and twice ma * mb over 2 ^ (301 - (ea + eb))

module _ (x y : Float) (X : Parts x) (Y : Parts y) (small : exponent_of (to_bits binary32 x) + exponent_of (to_bits binary32 y) ≤ 150) where
  abbrev ma : ℕ
  ma = significand_of (to_bits binary32 x)

  abbrev mb : ℕ
  mb = significand_of (to_bits binary32 y)

  abbrev ea : ℕ
  ea = exponent_of (to_bits binary32 x)

  abbrev eb : ℕ
  eb = exponent_of (to_bits binary32 y)

  abbrev p : ℕ
  p = 2 * (ma * mb)

  abbrev T' : ℕ
  T' = 216 - (ea + eb)

  product_lt : ma * mb < 2 ^ 48
  product_lt = mul-lt-pow 24 24 X.few Y.few

  pub p-lt : p < 2 ^ 49
  p-lt = let h = product_lt in omega arith

  p_short : size p ≤ 50
  p_short = size-le p 50 (let h = p-lt in omega arith)

  -- the two fractions are equal
  cross : ma * 2 ^ (ea - 1) * (mb * 2 ^ (eb - 1)) * (1 * 2 ^ (T' - 64 + 149)) ≡ p * 2 ^ (64 - T') * (2 ^ 149 * 2 ^ 149)
  cross =
      left
      ∙ ap (λ (i : ℕ). ma * mb * 2 ^ i) exps
      ∙ sym right
    where
      left : ma * 2 ^ (ea - 1) * (mb * 2 ^ (eb - 1)) * (1 * 2 ^ (T' - 64 + 149)) ≡ ma * mb * 2 ^ (ea - 1 + (eb - 1) + (T' - 64 + 149))
      left = ap (λ (i : ℕ). ma * 2 ^ (ea - 1) * (mb * 2 ^ (eb - 1)) * i) (one-mul (2 ^ (T' - 64 + 149))) ∙ rw (pow-add 2 (ea - 1 + (eb - 1)) (T' - 64 + 149), pow-add 2 (ea - 1) (eb - 1)) (simp (mul_assoc, mul_comm, mul_left_comm))

      right : p * 2 ^ (64 - T') * (2 ^ 149 * 2 ^ 149) ≡ ma * mb * 2 ^ suc (64 - T' + 298)
      right = rw (pow-succ' 2 (64 - T' + 298), pow-add 2 (64 - T') 298, pow-add 2 149 149) (simp (mul_assoc, mul_comm, mul_left_comm))

      sums : (i j : ℕ) → 1 ≤ i → 1 ≤ j → i + j ≤ 150 → i - 1 + (j - 1) + (216 - (i + j) - 64 + 149) ≡ suc (64 - (216 - (i + j)) + 298)
      sums i j g h l = omega arith

      exps : ea - 1 + (eb - 1) + (T' - 64 + 149) ≡ suc (64 - T' + 298)
      exps = sums ea eb (exponent_pos (to_bits binary32 x)) (exponent_pos (to_bits binary32 y)) small

  pub product_is : of_bits binary32 (pattern p T') ≡ x *f y
  product_is =
      packs p T' p 1 (pow_pos 0) p_short (omega arith) (omega arith) reaches (subst (λ (i : ℕ). p < i) (sym (mul-one (2 ^ size p))) (size-lt p)) (ap (λ (i : ℕ). closest p i) (one-mul (2 ^ dropped p T')))
      ∙ sym (round_same binary32 false (ma * 2 ^ (ea - 1) * (mb * 2 ^ (eb - 1))) (2 ^ 149 * 2 ^ 149) (p * 2 ^ (64 - T')) (1 * 2 ^ (T' - 64 + 149)) (mul-pos (pow_pos 149) (pow_pos 149)) (mul-pos (pow_pos 0) (pow_pos (T' - 64 + 149))) cross)
      ∙ sym (mul_at binary32 x y (ma * 2 ^ (ea - 1)) (2 ^ 149) (mb * 2 ^ (eb - 1)) (2 ^ 149) X.plus Y.plus (pow_pos 149) (pow_pos 149) X.is Y.is)
    where
      last : (i : ℕ) → 0 < i → i - 1 < i
      last i g = omega arith

      reaches : 0 < p → 2 ^ (size p - 1) * 1 ≤ p
      reaches h = le_trans (le_of_eq (mul-one (2 ^ (size p - 1)))) (size_reaches p (size p - 1) (last (size p) (digits_over p 0 h)))
