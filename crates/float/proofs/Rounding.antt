-- The arithmetic of `rounded`: the shifted significand, the bounds of its root, and the pattern that is packed. Assumes nothing.
use Rattle.std.proofs.Common.{◌≡◌, ℕ, ◌+◌, ◌-◌, ◌*◌, ◌/◌, ◌%◌, ◌^◌, ◌<◌, ◌≤◌, sym, ap, ◌∙◌, subst, zero-le, le_trans, lt_of_le_of_lt, mod-lt, mod-eq_of_lt, mul-le-mul, arith, lit<, lit≤, pow_pos, pow_mono, shl_exact}
use lib.Pow.{high, low}
use lib.Bits.{bit_and, bit_or, and_mask, or_shifted}
use Rattle.float.specs.Root.{Root}
use Rattle.float.specs.RootSteps.{Between, Scaled, Rounded}
use Rattle.float.proofs.Numbers.{root-lt, rounds}

module _ (sig e : ℕ) (pre : Scaled sig e) where
  -- the code's shift amount and shifted significand
  abbrev shift : ℕ
  shift = 25 + bit_and e 1

  pub shift_is : shift ≡ 25 + e % 2
  shift_is = ap (λ (x : ℕ). 25 + x) (and_mask e 1)

  pub shift_le : shift ≤ 26
  shift_le = omega (arith, shift_is)

  abbrev W : ℕ
  W = sig * 2 ^ (25 + e % 2)

  pub wide_is : (sig * 2 ^ shift) % 2 ^ 64 ≡ W
  wide_is = ap (λ (x : ℕ). (sig * 2 ^ x) % 2 ^ 64) shift_is ∙ shl_exact {a = sig} 24 (25 + e % 2) 64 pre.1 (omega arith)

  pub wide_le : W ≤ (2 ^ 24 - 1) * 2 ^ 26
  wide_le = mul-le-mul (below pre.1) (pow_mono {i = 25 + e % 2} {j = 26} (omega arith))
    where
      below : sig < 2 ^ 24 → sig ≤ 2 ^ 24 - 1
      below h = omega arith

  wide_ge : 2 ^ 24 * 2 ^ 24 ≤ W
  wide_ge = le_trans (lit≤ tt) (mul-le-mul {n₁ = 2 ^ 23} {m₁ = 2 ^ 25} pre.0 (pow_mono {i = 25} {j = 25 + e % 2} (omega arith)))

  pub between : Between ((sig * 2 ^ shift) % 2 ^ 64) 0 25
  between = subst (λ (n : ℕ). Between n 0 25) (sym wide_is) (record {
    few = lit≤ tt;
    room = lit≤ tt;
    above = zero-le;
    below = lt_of_le_of_lt wide_le (lit< tt);
  })

  module _ (h : ℕ) (root : Root ((sig * 2 ^ shift) % 2 ^ 64) h) where
    lower : h * h ≤ W
    lower = subst (λ (n : ℕ). h * h ≤ n) wide_is root.0

    upper : W < (h + 1) * (h + 1)
    upper = subst (λ (n : ℕ). n < (h + 1) * (h + 1)) wide_is root.1

    pub h_lt : h < 2 ^ 25 - 1
    h_lt = root-lt h (2 ^ 25 - 1) (lt_of_le_of_lt lower (lt_of_le_of_lt wide_le (lit< tt)))

    h_ge : 2 ^ 24 < h + 1
    h_ge = root-lt (2 ^ 24) (h + 1) (lt_of_le_of_lt wide_ge upper)

    abbrev q : ℕ
    q = (h + 1) / 2

    abbrev pattern : ℕ
    pattern = bit_or ((e / 2 * 2 ^ 23) % 2 ^ 32) (q % 2 ^ 23)

    pattern_is : pattern ≡ e / 2 * 2 ^ 23 + q % 2 ^ 23
    pattern_is =
        let le = pre.3 in
        ap (λ (x : ℕ). bit_or x (q % 2 ^ 23)) (mod-eq_of_lt {n = e / 2 * 2 ^ 23} {m = 2 ^ 32} (omega arith))
        ∙ or_shifted (e / 2) 23 (q % 2 ^ 23) (mod-lt q (pow_pos 23))

    digits : 2 ^ 23 + pattern % 2 ^ 23 ≡ q
    digits = ap (λ (x : ℕ). 2 ^ 23 + x % 2 ^ 23) pattern_is ∙ ap (λ (x : ℕ). 2 ^ 23 + x) (low (e / 2) 23 (mod-lt q (pow_pos 23))) ∙ top (h_lt) (h_ge)
      where
        top : h < 2 ^ 25 - 1 → 2 ^ 24 < h + 1 → 2 ^ 23 + q % 2 ^ 23 ≡ q
        top a b = omega arith

    pub rounded_is : Rounded sig e pattern
    rounded_is = record {
      field = ap (λ (x : ℕ). x / 2 ^ 23) pattern_is ∙ high (e / 2) 23 (mod-lt q (pow_pos 23));
      above = subst (λ (x : ℕ). (2 * x - 1) * (2 * x - 1) ≤ W) (sym digits) near.0;
      below = subst (λ (x : ℕ). W < (2 * x + 1) * (2 * x + 1)) (sym digits) near.1;
    }
      where
        near : ((2 * q - 1) * (2 * q - 1) ≤ W) × (W < (2 * q + 1) * (2 * q + 1))
        near = rounds W h (lower, upper)
