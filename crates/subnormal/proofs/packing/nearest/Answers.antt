-- `subnormal::packing::nearest` meets its contract. Beyond 63 places nothing of p is left. Assumes nothing.
use mathlib.Core.Path.{◌≡◌, ap, ◌∙◌}
use Prim.Native.Nat.{ℕ, ◌+◌, ◌-◌, ◌*◌, ◌/◌, ◌%◌, ◌^◌, ◌≤◌, ◌<◌, min}
use native.Mathlib.Nat.{one-mul}
use native.Mathlib.Omega.{arith}
use lib.Dec.{lit<}
use lib.Pow.{pow_pos, pow_mono, shl_exact}
use lib.Bits.{bit_and, and_mask, and_le_r}
use lib.Ieee.Nearest.{closest}
use Rattle.subnormal.proofs.Rounded.{by_shift, within}
use Rattle.subnormal.proofs.packing.nearest.Goals as goal

module _ (k j : ℕ) (some : 0 < k) (is : j ≡ min k 63) where
  j_pos : 0 < j
  j_pos = omega arith

  j-le : j ≤ 63
  j-le = omega arith

  -- the code's half
  half : (1 * 2 ^ (j - 1)) % 2 ^ 64 ≡ 2 ^ (j - 1)
  half = shl_exact {a = 1} 1 (j - 1) 64 (lit< tt) (omega arith) ∙ one-mul (2 ^ (j - 1))

  half_pos : 0 < 2 ^ (j - 1)
  half_pos = pow_pos (j - 1)

  half_le : 2 ^ (j - 1) ≤ 2 ^ 62
  half_le = pow_mono {i = j - 1} {j = 62} (omega arith)

  rounded : (p : ℕ) → p < 2 ^ 50 → (p + ((1 * 2 ^ (j - 1)) % 2 ^ 64 - 1) + bit_and (p / 2 ^ j) 1) / 2 ^ j ≡ closest p (2 ^ k)
  rounded p l =
      ap (λ (i : ℕ). (p + (i - 1) + bit_and (p / 2 ^ j) 1) / 2 ^ j) half
      ∙ ap (λ (i : ℕ). (p + (2 ^ (j - 1) - 1) + i) / 2 ^ j) (and_mask (p / 2 ^ j) 1)
      ∙ by_shift p j j_pos
      ∙ ap (λ (i : ℕ). closest p (2 ^ i)) is
      ∙ within p k l

pub overflow_sub-half : goal.overflow_sub-half
overflow_sub-half c =
    j_pos _ _ c.requires.k_nonzero c.min-j.ensures

pub overflow_shl-half : goal.overflow_shl-half
overflow_shl-half c =
    omega (arith, j-le _ _ c.requires.k_nonzero c.min-j.ensures)

pub overflow_sub-result : goal.overflow_sub-result
overflow_sub-result c =
    omega (arith, half _ _ c.requires.k_nonzero c.min-j.ensures, half_pos _ _ c.requires.k_nonzero c.min-j.ensures)

pub overflow_add-result : goal.overflow_add-result
overflow_add-result c =
    omega (arith, half _ _ c.requires.k_nonzero c.min-j.ensures, half_le _ _ c.requires.k_nonzero c.min-j.ensures)

pub overflow_shr-result : goal.overflow_shr-result
overflow_shr-result c =
    omega (arith, j-le _ _ c.requires.k_nonzero c.min-j.ensures)

pub overflow_add-result-2 : goal.overflow_add-result-2
overflow_add-result-2 c =
    omega (arith, and_le_r (c.args.p / 2 ^ c.min-j.result) 1, half _ _ c.requires.k_nonzero c.min-j.ensures, half_le _ _ c.requires.k_nonzero c.min-j.ensures)

pub overflow_shr-result-2 : goal.overflow_shr-result-2
overflow_shr-result-2 c =
    omega (arith, j-le _ _ c.requires.k_nonzero c.min-j.ensures)

pub returns : goal.returns
returns c =
    rounded _ _ c.requires.k_nonzero c.min-j.ensures _ c.requires.p_bound
