-- Which floats are NaN, and which patterns are a NaN's. Assumes nothing.
use Rattle.std.proofs.Common.{◌≡◌, ℕ, ◌%◌, ◌^◌, ◌<◌, true, sym, refl, ap, ◌∙◌, lt-ltb}
use lib.Ieee.{Float, nan, inf, fin, binary32, is_nan, of_bits, to_bits}
use lib.Ieee.Bits.{nan_bits_is, nan_bits_above}
use Rattle.float.proofs.Signs.{clash}

-- ---- floats

-- there is one NaN
pub nan_only : (x : Float) → is_nan x ≡ true → nan ≡ x
unfolding is_nan
nan_only nan e = refl
nan_only (inf s) e = clash (sym e)
nan_only (fin s m e') e = clash (sym e)

-- the pattern that stands for it
pub nan_bits_lem : (x : Float) → is_nan x ≡ true → 0x7fc0_0000 ≡ to_bits binary32 x
unfolding to_bits
nan_bits_lem x e = ap (λ (y : Float). to_bits binary32 y) (nan_only x e)

-- ---- patterns: what stands below the sign is above an infinity's

pub is_nan_lem : (w : ℕ) → 0x7f80_0000 < w % 2 ^ 31 → nan ≡ of_bits binary32 w
is_nan_lem w h = nan_only (of_bits binary32 w) (sym (nan_bits_is binary32 w) ∙ nan_bits_above binary32 w ∙ lt-ltb 0x7f80_0000 (w % 2 ^ 31) h)
