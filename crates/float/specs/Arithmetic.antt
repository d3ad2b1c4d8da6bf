-- f32 arithmetic, one rounding each: document 01, 'The float rules below everything'. Short names for the operations of lib.Ieee at binary32. Definitions only.
use Rattle.std.specs.Prelude.{from_bits, Float}
use Rattle.std.specs.Float.{binary32}
use Rattle.std.specs.Float.Ieee.{add, sub, mul, div}

infixl 6 ◌+f◌ ◌-f◌
infixl 7 ◌*f◌ ◌/f◌
abbrev pub ◌+f◌ : Float → Float → Float
x +f y = add binary32 x y

abbrev pub ◌-f◌ : Float → Float → Float
x -f y = sub binary32 x y

abbrev pub ◌*f◌ : Float → Float → Float
x *f y = mul binary32 x y

abbrev pub ◌/f◌ : Float → Float → Float
x /f y = div binary32 x y

-- 0 and 1
abbrev pub 0f : Float
0f = from_bits binary32 0

abbrev pub 1f : Float
1f = from_bits binary32 0x3f80_0000
