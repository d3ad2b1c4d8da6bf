-- The two ways in which `positive` splits a pattern into a significand of 24 bits and an exponent: a subnormal's fraction is shifted up by its count of leading zeros,
-- and a normal's gets its leading digit. Assumes nothing.
use Rattle.std.proofs.Common.{◌≡◌, ℕ, suc, ◌+◌, ◌-◌, ◌*◌, ◌/◌, ◌%◌, ◌^◌, ◌<◌, ◌≤◌, sym, ap, ◌∙◌, subst, le_trans, le_of_eq, lt_of_lt_of_le, lt_of_le_of_lt, mul-le-mul_right, mod-lt, mod-eq_of_lt, mul_assoc, mul-one, arith, pow_pos, pow-add, shl_lt, shl_exact}
use lib.Bits.{bit_and, bit_or, and_mask, or_shifted_r}
use lib.Count.{count_leading_zeros, leading_top}
use lib.Ieee.{binary32, of_bits}
use Rattle.float.specs.Root.{square_root}
use Rattle.float.specs.RootSteps.{Scaled, Rounded}
use Rattle.float.proofs.Numbers.{pow_lt_cancel}
use Rattle.float.proofs.Patterns.{small, normal, sqrt_of_odd, r_lt, root_pattern}

-- what `positive` promises
abbrev pub Done : ℕ → ℕ → Type 0
Done b r = (r < 0x7f80_0000) × (of_bits binary32 r ≡ square_root (of_bits binary32 b))

-- ---- a subnormal
module _ (b : ℕ) (p : 0 < b) (f : b / 2 ^ 23 ≡ 0) where
  b_lt : b < 2 ^ 23
  b_lt = omega arith

  frac_is : bit_and b (2 ^ 23 - 1) ≡ b
  frac_is = and_mask b 23 ∙ mod-eq_of_lt b_lt

  abbrev z : ℕ
  z = count_leading_zeros 32 (bit_and b (2 ^ 23 - 1))

  -- the highest set bit is j, and z + j is 31
  top : (j : ℕ) × (z + suc j ≡ 32) × (2 ^ j ≤ b) × (b < 2 ^ suc j)
  top = subst (λ (x : ℕ). (j : ℕ) × (count_leading_zeros 32 x + suc j ≡ 32) × (2 ^ j ≤ b) × (b < 2 ^ suc j)) (sym frac_is) (leading_top 32 b p (omega (arith, b_lt)))

  low_bit : top.0 < 23
  low_bit = pow_lt_cancel (lt_of_le_of_lt top.2 b_lt)

  pub z_ge : 9 ≤ z
  z_ge = let e = top.1 in let l = low_bit in omega arith

  pub z_le : z ≤ 31
  z_le = let e = top.1 in omega arith

  abbrev s : ℕ
  s = z - 8

  sum : top.0 + s ≡ 23
  sum = let e = top.1 in let l = low_bit in omega arith

  abbrev sig : ℕ
  sig = (bit_and b (2 ^ 23 - 1) * 2 ^ s) % 2 ^ 32

  sig_is : sig ≡ b * 2 ^ s
  sig_is = ap (λ (x : ℕ). (x * 2 ^ s) % 2 ^ 32) frac_is ∙ shl_exact {a = b} (suc top.0) s 32 top.3 (let e = sum in omega arith)

  sig_ge : 2 ^ 23 ≤ sig
  sig_ge = subst (λ (x : ℕ). 2 ^ 23 ≤ x) (sym sig_is) (le_trans (le_of_eq (ap (λ (x : ℕ). 2 ^ x) (sym sum) ∙ pow-add 2 top.0 s)) (mul-le-mul_right (2 ^ s) top.2))

  sig_lt : sig < 2 ^ 24
  sig_lt = subst (λ (x : ℕ). x < 2 ^ 24) (sym sig_is) (lt_of_lt_of_le (shl_lt (suc top.0) s top.3) (le_of_eq (ap (λ (x : ℕ). 2 ^ x) next)))
    where
      next : suc top.0 + s ≡ 24
      next = let e = sum in omega arith

  pub ready_small : Scaled sig (128 - s)
  ready_small = let g = z_ge in let l = z_le in (sig_ge, sig_lt, omega arith, omega arith)

  scaled : b * 2 ^ 0 * 2 ^ 149 ≡ sig * 2 ^ (21 + (128 - s))
  scaled =
      ap (λ (x : ℕ). x * 2 ^ 149) (mul-one b)
      ∙ ap (λ (x : ℕ). b * x) (ap (λ (x : ℕ). 2 ^ x) exps ∙ pow-add 2 s (21 + (128 - s)))
      ∙ sym (mul_assoc b (2 ^ s) (2 ^ (21 + (128 - s))))
      ∙ ap (λ (x : ℕ). x * 2 ^ (21 + (128 - s))) (sym sig_is)
    where
      exps : 149 ≡ s + (21 + (128 - s))
      exps = let l = z_le in omega arith

  pub done_small : (r : ℕ) → Rounded sig (128 - s) r → Done b r
  done_small r n =
      let d = ready_small in (
        r_lt sig (128 - s) d r n,
        root_pattern sig (128 - s) d r n (b * 2 ^ 0) scaled ∙ sym (sqrt_of_odd (of_bits binary32 b) b 0 (small b b_lt) p),
      )

-- ---- a normal
module _ (b : ℕ) (u : b < 0x7f80_0000) (f : b / 2 ^ 23 ≡ 0 → ⊥) where
  abbrev sig_n : ℕ
  sig_n = bit_or (bit_and b (2 ^ 23 - 1)) (2 ^ 23)

  sigN_is : sig_n ≡ 2 ^ 23 + b % 2 ^ 23
  sigN_is = ap (λ (x : ℕ). bit_or x (2 ^ 23)) (and_mask b 23) ∙ or_shifted_r 1 23 (b % 2 ^ 23) (mod-lt b (pow_pos 23))

  pub ready_normal : Scaled sig_n (b / 2 ^ 23 + 127)
  ready_normal = let e = sigN_is in (omega arith, omega arith, omega arith, omega arith)

  abbrev k : ℕ
  k = b / 2 ^ 23 - 1

  scaled_n : (2 ^ 23 + b % 2 ^ 23) * 2 ^ k * 2 ^ 149 ≡ sig_n * 2 ^ (21 + (b / 2 ^ 23 + 127))
  scaled_n =
      mul_assoc (2 ^ 23 + b % 2 ^ 23) (2 ^ k) (2 ^ 149)
      ∙ ap (λ (x : ℕ). (2 ^ 23 + b % 2 ^ 23) * x) (sym (pow-add 2 k 149) ∙ ap (λ (x : ℕ). 2 ^ x) exps)
      ∙ ap (λ (x : ℕ). x * 2 ^ (21 + (b / 2 ^ 23 + 127))) (sym sigN_is)
    where
      exps : k + 149 ≡ 21 + (b / 2 ^ 23 + 127)
      exps = omega (arith, f)

  pub done_normal : (r : ℕ) → Rounded sig_n (b / 2 ^ 23 + 127) r → Done b r
  done_normal r n =
      let d = ready_normal in (
        r_lt sig_n (b / 2 ^ 23 + 127) d r n,
        root_pattern sig_n (b / 2 ^ 23 + 127) d r n ((2 ^ 23 + b % 2 ^ 23) * 2 ^ k) scaled_n
            ∙ sym (sqrt_of_odd (of_bits binary32 b) (2 ^ 23 + b % 2 ^ 23) k (normal b (omega (arith, f)) u) (omega arith)),
      )
