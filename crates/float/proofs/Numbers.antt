-- Whole numbers: squares, products and powers of two, and their order. Assumes nothing.
use Rattle.std.proofs.Common.{◌≡◌, ℕ, suc, ◌+◌, ◌-◌, ◌*◌, ◌/◌, ◌^◌, ◌<◌, ◌≤◌, Bool, true, false, not, T, ltb, ◌⊎◌, inl, inr, zero-le, le_trans, le_refl, lt_of_lt_of_le, le_of_suc-le-suc, lt_of_le_of_lt, le_of_lt, mul_assoc, mul-le-mul, mul-le-mul_left, mul-lt-mul_of_pos_right, lt_of_not-le, not-le_of_lt, mul_left_comm, arith, ltb→lt, nltb→le, pow_mono, shl_lt}
use lib.Pow.{pow-lt}
use Rattle.float.specs.Root.{Root}

-- below a bound, or from it on
pub here_or_on : (a n : ℕ) → (a < n) ⊎ (n ≤ a)
here_or_on a n = go (ltb a n) (ltb→lt a n) (nltb→le a n)
  where
    go : (b : Bool) → (T b → a < n) → (T (not b) → n ≤ a) → (a < n) ⊎ (n ≤ a)
    go true h k = inl (h tt)
    go false h k = inr (k tt)

-- squares are in the order of what is squared
pub root-lt : (a b : ℕ) → a * a < b * b → a < b
root-lt a b h = lt_of_not-le (λ (g : b ≤ a). not-le_of_lt h (mul-le-mul g g))

pub square_lt : (a b : ℕ) → a < b → a * a < b * b
square_lt a b h = lt_of_le_of_lt (mul-le-mul {n₁ = a} {m₁ = a} {n₂ = a} {m₂ = b} (le_refl a) (le_of_lt h)) (mul-lt-mul_of_pos_right h (lt_of_le_of_lt zero-le h))

pub sq_mul : (a b : ℕ) → a * b * (a * b) ≡ a * a * (b * b)
sq_mul a b = simp (mul_assoc, mul_left_comm)

-- half of h, rounded up, lies within 1 / 2 of the half of what h is the whole-number root of
pub rounds : (n h : ℕ) → Root n h → ((2 * ((h + 1) / 2) - 1) * (2 * ((h + 1) / 2) - 1) ≤ n) × (n < (2 * ((h + 1) / 2) + 1) * (2 * ((h + 1) / 2) + 1))
rounds n h r = (le_trans (mul-le-mul under under) r.0, lt_of_lt_of_le r.1 (mul-le-mul over over))
  where
    under : 2 * ((h + 1) / 2) - 1 ≤ h
    under = omega arith

    over : h + 1 ≤ 2 * ((h + 1) / 2) + 1
    over = omega arith

pub mul-lt-pow : {a b : ℕ} (s t : ℕ) → a < 2 ^ s → b < 2 ^ t → a * b < 2 ^ (s + t)
mul-lt-pow {a} s t ha hb = lt_of_le_of_lt (mul-le-mul_left a (le_of_lt hb)) (shl_lt s t ha)

-- powers of two are in the order of their exponents
pub pow_lt_cancel : {a b : ℕ} → 2 ^ a < 2 ^ b → a < b
pow_lt_cancel h = lt_of_not-le (λ g. not-le_of_lt h (pow_mono g))

pub pow-le_cancel : {a b : ℕ} → 2 ^ a ≤ 2 ^ b → a ≤ b
pow-le_cancel {a} {b} h = le_of_suc-le-suc (lt_of_not-le (λ (g : suc b ≤ a). not-le_of_lt (pow-lt g) h))
