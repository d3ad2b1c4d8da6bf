-- Left-to-right sums: document 01 sums members, links and weights in the order in which they stand. Definitions only.
use Rattle.std.specs.Prelude.{ℕ, zero, suc, Float}
use Rattle.float.specs.Arithmetic.{◌+f◌, 0f}
use Rattle.vector.specs.declared.Vec3.{Vec3}
use Rattle.vector.specs.Vector.{plus, zero_vec}

-- a, then f 0, f 1, .. , n of them, each joined to what came before
unfoldable pub fold : {A B : Type 0} → (A → B → A) → A → (ℕ → B) → ℕ → A
fold op a f zero = a
fold op a f (suc n) = op (fold op a f n) (f n)

-- f 0 + f 1 + .. of n vectors, from zero
abbrev pub total : (ℕ → Vec3) → ℕ → Vec3
total f n = fold plus zero_vec f n

-- f 0 + f 1 + .. of n floats, from zero
abbrev pub sum_of : (ℕ → Float) → ℕ → Float
sum_of f n = fold (λ a b. a +f b) 0f f n
