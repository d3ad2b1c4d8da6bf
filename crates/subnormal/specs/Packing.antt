-- The whole-number steps of a small product or quotient. No public contract cites it. Definitions only.
-- A fraction of a smallest value is handed on as p and t: it is p * 2 ^ 64 / 2 ^ t smallest values.
use Rattle.std.specs.Prelude.{ℕ, ◌+◌, ◌-◌, ◌*◌, ◌/◌, ◌%◌, ◌^◌, min}
use Rattle.std.specs.Float.Ieee.{size}
use Rattle.std.specs.Float.Ieee.Nearest.{closest}

-- how many digits its whole part has beyond 24
abbrev pub beyond : ℕ → ℕ → ℕ
beyond p t = size p + 40 - t

-- so many digits of p are dropped
abbrev pub dropped : ℕ → ℕ → ℕ
dropped p t = beyond p t + t - 64

-- the pattern of the nearest float
abbrev pub pattern : ℕ → ℕ → ℕ
pattern p t = beyond p t * 2 ^ 23 + closest p (2 ^ dropped p t)

-- twice n / d, and 1 more where a remainder is left: it rounds as 2 * n / d does wherever two or more of its digits are dropped
abbrev pub halves : ℕ → ℕ → ℕ
halves n d = 2 * (n / d) + min 1 (n % d)
