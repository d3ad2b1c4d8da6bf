-- Document 01, 'Refused calls': several tests as one. Definitions only.
use Rattle.std.specs.Prelude.{Bool, true, ◌&&◌, List, [], ◌∷◌, ℕ, zero, suc}

-- the tests f 0, f 1, .. , n of them
unfoldable pub every : (ℕ → Bool) → ℕ → Bool
every f zero = true
every f (suc n) = every f n && f n

-- a test, and then every test of a list, from the left
abbrev pub conj_from : Bool → List Bool → Bool
conj_from a [] = a
conj_from a (b ∷ l) = conj_from (a && b) l

-- every test of a list
abbrev pub conj : List Bool → Bool
conj [] = true
conj (a ∷ l) = conj_from a l
