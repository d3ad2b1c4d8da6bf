-- What the steps of the square root ask of each other. No public contract cites it. Definitions only.
use Rattle.std.specs.Prelude.{◌≡◌, ℕ, ◌+◌, ◌-◌, ◌*◌, ◌/◌, ◌%◌, ◌^◌, ◌<◌, ◌≤◌}

-- the root of n lies from r up to r + 2 ^ left, within 32 bits
pub record Between (n r left : ℕ) : Type 0 where
  pub few : left ≤ 32
  pub room : r + 2 ^ left ≤ 2 ^ 32
  pub above : r * r ≤ n
  pub below : n < (r + 2 ^ left) * (r + 2 ^ left)

-- a significand of 24 bits, and an exponent e that stands for 2 ^ (e - 277)
abbrev pub Scaled : ℕ → ℕ → Type 0
Scaled sig e = (2 ^ 23 ≤ sig) × (sig < 2 ^ 24) × (2 ≤ e) × (e ≤ 400)

-- The pattern r has the exponent's field e / 2, and its significand q of 24 bits is the whole number nearest to the root of X = sig * 2 ^ (23 + e % 2):
-- 2 * q - 1 ≤ 2√X < 2 * q + 1, squared.
pub record Rounded (sig e r : ℕ) : Type 0 where
  pub field : r / 2 ^ 23 ≡ e / 2
  pub above : (2 * (2 ^ 23 + r % 2 ^ 23) - 1) * (2 * (2 ^ 23 + r % 2 ^ 23) - 1) ≤ sig * 2 ^ (25 + e % 2)
  pub below : sig * 2 ^ (25 + e % 2) < (2 * (2 ^ 23 + r % 2 ^ 23) + 1) * (2 * (2 ^ 23 + r % 2 ^ 23) + 1)
