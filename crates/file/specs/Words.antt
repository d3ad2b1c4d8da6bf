-- Little-endian 32-bit words: document 01, 'The room file and `roomlight`'. A file is the list of its bytes. Definitions only.
use Rattle.std.specs.Prelude.{cond, List, ℕ, ◌+◌, ◌*◌, ◌/◌, ltb, Float, length}
use Rattle.std.specs.Float.{binary32}
use Rattle.std.specs.Float.Ieee.{of_bits}
use Rattle.vector.specs.declared.Vec3.{Vec3}
use Rattle.vector.specs.Vector.{vec}
use Rattle.accept.specs.Tables.{number_at}

-- how many whole words a file has
abbrev pub words : List ℕ → ℕ
words b = length b / 4

-- word k, the least significant byte first; 0 where the file has no such word
unfoldable pub word_in : List ℕ → ℕ → ℕ
word_in b k =
    cond (ltb k (words b))
    (number_at b (4 * k) + 256 * number_at b (4 * k + 1) + 65536 * number_at b (4 * k + 2) + 16777216 * number_at b (4 * k + 3)) 0

-- the float whose bits are word k
abbrev pub float_in : List ℕ → ℕ → Float
float_in b k = of_bits binary32 (word_in b k)

-- the vector of the three floats from word k on
abbrev pub vec_in : List ℕ → ℕ → Vec3
vec_in b k = vec (float_in b k) (float_in b (k + 1)) (float_in b (k + 2))
