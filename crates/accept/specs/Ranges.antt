-- Document 01, 'Refused calls', 3 and 5: floats in their range. Definitions only.
use Rattle.std.specs.Prelude.{Bool, ◌&&◌, List, [], ◌∷◌, ℕ, ◌*◌, length, Float}
use Rattle.std.specs.Float.Ieee.{le, neg}
use Rattle.float.specs.Column.{float_at}
use Rattle.vector.specs.declared.Vec3.{Vec3}
use Rattle.accept.specs.Every.{every, conj}
use Rattle.accept.specs.Limits.{max_coordinate}
use Rattle.accept.specs.Tables.{holds}

-- x is from lo to hi, both included; a NaN is not
abbrev pub within : Float → Float → Float → Bool
within x lo hi = le lo x && le x hi

-- each of the first n floats is from lo to hi
unfoldable pub all_within : (ℕ → Float) → ℕ → Float → Float → Bool
all_within f n lo hi = every (λ k. within (f k) lo hi) n

-- a list holds n entries of `each` floats, all of them from lo to hi
abbrev pub floats_within : List Float → ℕ → ℕ → Float → Float → Bool
floats_within l n each lo hi = holds (length l) n each && all_within (float_at l) (n * each) lo hi

-- one axis of bounds: lo and hi are at most limit in size, and lo is not above hi
abbrev pub axis : Float → Float → Float → Bool
axis lo hi limit = conj (within lo (neg limit) limit ∷ within hi (neg limit) limit ∷ le lo hi ∷ [])

-- a coordinate: at most 10,000 in size
abbrev pub coordinate : Float → Bool
coordinate x = within x (neg max_coordinate) max_coordinate

-- a list holds n vectors, each float of them a coordinate
abbrev pub coordinates : List Float → ℕ → Bool
coordinates l n = floats_within l n 3 (neg max_coordinate) max_coordinate

-- a point or a normal: three coordinates
abbrev pub point : Vec3 → Bool
point p = conj (coordinate p.x ∷ coordinate p.y ∷ coordinate p.z ∷ [])

-- bounds: each axis, at most 10,000 in size
abbrev pub bounds : Vec3 → Vec3 → Bool
bounds lo hi = conj (axis lo.x hi.x max_coordinate ∷ axis lo.y hi.y max_coordinate ∷ axis lo.z hi.z max_coordinate ∷ [])
