-- Vectors as words, for the programs that replay answers. Definitions only.
use Rattle.std.specs.Prelude.{ℕ, List}
use Rattle.std.specs.Float.{binary32}
use Rattle.std.specs.Float.Ieee.{to_bits, of_bits}
use Rattle.vector.specs.declared.Vec3.{Vec3}
use Rattle.replay.specs.Words.{with}

-- the bits of a vector's three floats more
abbrev pub with_vector : List ℕ → Vec3 → List ℕ
with_vector r v = with (with (with r (to_bits binary32 v.x)) (to_bits binary32 v.y)) (to_bits binary32 v.z)

-- the vector of three words
abbrev pub vector_of : ℕ → ℕ → ℕ → Vec3
vector_of x y z = record { x = of_bits binary32 x; y = of_bits binary32 y; z = of_bits binary32 z }
