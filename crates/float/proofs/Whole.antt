-- The step of the whole-number root: one bit found, half the interval left. Assumes nothing.
use Rattle.std.proofs.Common.{◌≡◌, ℕ, zero, suc, ◌+◌, ◌-◌, ◌*◌, ◌%◌, ◌^◌, ◌<◌, ◌≤◌, sym, refl, ap, ◌∙◌, subst, one-mul, sub-one, one-add, arith, lit<, pow_pos, shl_exact}
use native.Mathlib.Nat.{two-pow-succ}
use Rattle.float.specs.RootSteps.{Between}
use Rattle.float.proofs.Numbers.{mul-lt-pow}

-- `1 << l` at 64 bits is 2 ^ l
pub one_shl : (l : ℕ) → l < 64 → (1 * 2 ^ l) % 2 ^ 64 ≡ 2 ^ l
one_shl l h = shl_exact {a = 1} 1 l 64 (lit< tt) (subst (λ (x : ℕ). x ≤ 64) (sym (one-add l)) h) ∙ one-mul (2 ^ l)

-- 2 ^ k is two halves
pub halves : (k : ℕ) → (k ≡ 0 → ⊥) → 2 ^ k ≡ 2 ^ (k - 1) + 2 ^ (k - 1)
halves zero f = absurd (f refl)
halves (suc j) f = two-pow-succ j ∙ ap (λ (i : ℕ). 2 ^ i + 2 ^ i) (sym (sub-one (suc j)))

module _ (n r left : ℕ) (b : Between n r left) (f : left ≡ 0 → ⊥) where
  -- what the code adds for the bit
  abbrev bit : ℕ
  bit = (1 * 2 ^ (left - 1)) % 2 ^ 64

  pub small : left - 1 < 64
  small = let h = b.few in omega arith

  bit_is : bit ≡ 2 ^ (left - 1)
  bit_is = one_shl (left - 1) small

  pub tried-lt : r + bit < 2 ^ 32
  tried-lt = let h = b.room in omega (arith, bit_is, halves left f, pow_pos (left - 1))

  pub square_lt : (r + bit) * (r + bit) < 2 ^ 64
  square_lt = mul-lt-pow 32 32 tried-lt tried-lt

  pub taken : (r + bit) * (r + bit) ≤ n → Between n (r + bit) (left - 1)
  taken h = record {
    few = let g = b.few in omega arith;
    room = let g = b.room in omega (arith, bit_is, halves left f);
    above = h;
    below = subst (λ (x : ℕ). n < x * x) same b.below;
  }
    where
      same : r + 2 ^ left ≡ r + bit + 2 ^ (left - 1)
      same = omega (arith, bit_is, halves left f)

  pub passed : n < (r + bit) * (r + bit) → Between n r (left - 1)
  passed h = record {
    few = let g = b.few in omega arith;
    room = let g = b.room in omega (arith, halves left f);
    above = b.above;
    below = subst (λ (x : ℕ). n < (r + x) * (r + x)) bit_is h;
  }
