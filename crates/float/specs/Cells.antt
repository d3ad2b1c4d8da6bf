-- The casts of a grid: document 01, 'The float rules below everything' (a float cast to i32 drops the fraction, saturates, and makes NaN 0) and 'The grid'.
-- Definitions only.
use Rattle.std.specs.Prelude.{ℕ, ◌+◌, ◌-◌, ◌*◌, ◌/◌, ◌^◌, min, max, cond, ℤ, pos, negsuc, Float}
use Rattle.std.specs.Float.{nan, inf, fin}
use Rattle.std.specs.Float.Ieee.{up, down, to_signed}

-- the integer, or 0 where it is negative
abbrev pub natural : ℤ → ℕ
natural (pos n) = n
natural (negsuc n) = 0

-- x cast to i32, or 0 where that is negative
unfoldable pub truncate : Float → ℕ
truncate x = natural (to_signed 31 x)

-- x cast to i32, clamped to 0 .. dim - 1
unfoldable pub cell : Float → ℕ → ℕ
unfolding truncate
cell x dim = min (truncate x) (dim - 1)

-- the least whole number that is no less than x, cast to i32, or 0 where that is negative: of m * up e / down e the quotient rounded up
unfoldable pub ceiling : Float → ℕ
ceiling nan = 0
ceiling (inf s) = cond s 0 (2 ^ 31 - 1)
ceiling (fin s m e) = cond s 0 (min ((m * up e + (down e - 1)) / down e) (2 ^ 31 - 1))

-- x rounded up, clamped to 1 .. 512
unfoldable pub cell_count : Float → ℕ
unfolding ceiling
cell_count x = max 1 (min (ceiling x) 512)
