-- Two constants of the shapes with an axis, the Rust's. Definitions only.
use Rattle.std.specs.Prelude.{Float}
use Rattle.std.specs.Float.{binary32}
use Rattle.std.specs.Float.Ieee.{of_bits}

-- 0.5
abbrev pub half : Float
half = of_bits binary32 0x3f00_0000

-- 1e-12: a cylinder or cone whose axis dot itself is below it is flat
abbrev pub tiny : Float
tiny = of_bits binary32 0x2b8c_bccc
