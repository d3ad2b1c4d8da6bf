-- What the definition of the tangent frame says at the zeros, at NaN and just below 0. Assumes nothing.
use mathlib.Core.Path.{◌≡◌, refl}
use mathlib.Core.List.{[], ◌∷◌, map}
use Prim.Native.Nat.{ℕ}
use lib.Ieee.{binary32, neg, le, lt, eq, of_bits}
use Rattle.float.specs.Arithmetic.{1f}
use Rattle.vector.specs.Tangent.{sign}

-- 1 at +0, -0 and the least number above 0; -1 at the greatest below 0 and at NaN
pub signs : map (λ (b : ℕ). sign (of_bits binary32 b)) (0x0000_0000 ∷ 0x8000_0000 ∷ 0x0000_0001 ∷ 0x8000_0001 ∷ 0x7fc0_0000 ∷ []) ≡ 1f ∷ 1f ∷ 1f ∷ neg 1f ∷ neg 1f ∷ []
unfolding sign le lt eq neg of_bits
signs = refl
