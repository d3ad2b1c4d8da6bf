-- Each float limit is the float nearest its decimal. Assumes nothing.
use mathlib.Core.Bool.{false}
use mathlib.Core.List.{[], ◌∷◌}
use mathlib.Core.Path.{◌≡◌, refl}
use Prim.Native.Nat.{ℕ}
use lib.Ieee.{Float, binary32, of_bits, of_fields, round, units, odd, span, climb, size}
use Rattle.accept.specs.Limits.{float_limits}

-- the float nearest p / q
abbrev pub nearest_to : ℕ → ℕ → Float
nearest_to p q = round binary32 false p q

pub limits_nearest : float_limits
    ≡ nearest_to 10000 1
    ∷ nearest_to 10000 1
    ∷ nearest_to 1 1
    ∷ nearest_to 1000000 1
    ∷ nearest_to 1000000000000 1
    ∷ nearest_to 2 1
    ∷ nearest_to 1 10000
    ∷ nearest_to 10000 1
    ∷ nearest_to 10000 1
    ∷ []
unfolding of_bits of_fields round units odd span climb size
limits_nearest = refl
