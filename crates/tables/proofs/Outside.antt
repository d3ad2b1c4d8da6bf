-- Reading a table at its end. Assumes nothing.
use mathlib.Core.List.{List, [], ◌∷◌}
use mathlib.Core.Path.{◌≡◌, refl}
use Prim.Native.Nat.{ℕ}
use lib.Ieee.{Float}
use Rattle.float.specs.Column.{float_at}
use Rattle.tables.specs.Tables.{shape_of}

-- a shape has no use for more than eight floats, and one that is lacking is NaN
pub eight_enough : (kind : ℕ) (l : List Float)
    → shape_of kind (float_at l 0 ∷ float_at l 1 ∷ float_at l 2 ∷ float_at l 3 ∷ float_at l 4 ∷ float_at l 5 ∷ float_at l 6 ∷ float_at l 7 ∷ []) ≡ shape_of kind l
unfolding shape_of
eight_enough kind l = refl
