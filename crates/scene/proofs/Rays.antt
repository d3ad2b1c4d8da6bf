-- The number of rays as a float. Assumes nothing.
use mathlib.Core.Path.{◌≡◌, refl}
use lib.Ieee.{binary32, of_bits, of_int}
use Rattle.vector.specs.Halton.{of_whole}

pub sixteen : of_bits binary32 0x4180_0000 ≡ of_whole 16
unfolding of_bits of_int
sixteen = refl
