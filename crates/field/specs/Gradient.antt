-- The normal of the surface at a point, from four distances round it: the Rust's `Scene::normal`, in the order of its float steps. Definitions only.
use Rattle.std.specs.Prelude.{cond, ℕ, eqb}
use Rattle.std.specs.Float.{binary32}
use Rattle.std.specs.Float.Ieee.{of_bits, neg, lt}
use Rattle.float.specs.Arithmetic.{0f, 1f}
use Rattle.vector.specs.declared.Vec3.{Vec3}
use Rattle.vector.specs.Vector.{vec, plus, scaled, over, length_of}
use Rattle.vector.specs.Fold.{total}
use Rattle.tables.specs.Tables.{Scene}
use Rattle.field.specs.Nearest.{dist}

-- k times the distance at p + k × 0.0005
unfoldable pub tap : Scene → Vec3 → Vec3 → Vec3
tap s p k = scaled k (dist s (plus p (scaled k (of_bits binary32 0x3a03_126f))))

-- n divided by its length, or Y where the length is not over 1e-12
unfoldable pub unit_or_y : Vec3 → Vec3
unit_or_y n = cond (lt (of_bits binary32 0x2b8c_bccc) (length_of n)) (over n (length_of n)) (vec 0f 1f 0f)

-- the four corners that are tapped, in order
unfoldable pub corner : ℕ → Vec3
corner i =
    cond (eqb i 0) (vec 1f (neg 1f) (neg 1f)) (cond (eqb i 1) (vec (neg 1f) (neg 1f) 1f) (cond (eqb i 2) (vec (neg 1f) 1f (neg 1f)) (vec 1f 1f 1f)))

-- the four taps, summed in order from zero, and made a unit vector by division
unfoldable pub normal : Scene → Vec3 → Vec3
normal s p = unit_or_y (total (λ i. tap s p (corner i)) 4)
