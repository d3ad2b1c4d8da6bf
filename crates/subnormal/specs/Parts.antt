-- The parts of a positive float by its bit pattern b: it is significand_of b * 2 ^ (exponent_of b - 1) smallest values. Definitions only.
use Rattle.std.specs.Prelude.{ℕ, ◌+◌, ◌/◌, ◌%◌, ◌^◌, max, cond, ltb}

abbrev pub significand_of : ℕ → ℕ
significand_of b = cond (ltb b (2 ^ 23)) b (2 ^ 23 + b % 2 ^ 23)

abbrev pub exponent_of : ℕ → ℕ
exponent_of b = max 1 (b / 2 ^ 23)
