-- Seeds and where they come to lie: document 01, 'Placement' (each is a Halton point in bases 2, 3, 5, projected in at most ten steps), in the order of the Rust's float steps.
-- Definitions only.
use Rattle.std.specs.Prelude.{Bool, cond, ◌||◌, ℕ, Float, Option, Some, None}
use Rattle.std.specs.Float.{binary32}
use Rattle.std.specs.Float.Ieee.{of_bits, lt}
use Rattle.float.specs.Arithmetic.{◌*f◌, ◌/f◌}
use Rattle.float.specs.Order.{greater}
use Rattle.float.specs.Root.{square_root}
use Rattle.vector.specs.declared.Vec3.{Vec3}
use Rattle.vector.specs.Vector.{vec, plus, minus, times, length_of}
use Rattle.vector.specs.Halton.{radical_inverse}
use Rattle.tables.specs.Tables.{Scene}
use Rattle.field.specs.Projection.{project}
use Rattle.seeds.specs.declared.Spacing.{Spacing}

-- Halton point number i
unfoldable pub seed : ℕ → Vec3
seed i = vec (radical_inverse 2 i) (radical_inverse 3 i) (radical_inverse 5 i)

-- for so many surfels in the box from lo to hi: the diagonal, and the least distance of two surfels, max(diagonal / root of the target, 0.0001)
unfoldable pub spacing_of : Vec3 → Vec3 → Float → Spacing
spacing_of lo hi target =
    let diag = length_of (minus hi lo) in
    record { lo = lo; hi = hi; diag = diag; d_min = greater (diag /f square_root target) (of_bits binary32 0x38d1_b717) }

-- a component is below lo or above hi; a NaN is neither
unfoldable pub outside : Vec3 → Vec3 → Vec3 → Bool
outside lo hi p = lt p.x lo.x || lt p.y lo.y || lt p.z lo.z || lt hi.x p.x || lt hi.y p.y || lt hi.z p.z

-- a point of the surface that is not outside the box
unfoldable pub bounded : Vec3 → Vec3 → Option Vec3 → Option Vec3
bounded lo hi None = None
bounded lo hi (Some p) = cond (outside lo hi p) None (Some p)

-- seed number i, laid over the box and projected with the tolerance 0.02 × least distance
unfoldable pub landed : Scene → Spacing → ℕ → Option Vec3
landed scene s i =
    bounded s.lo s.hi
    (project scene (plus s.lo (times (minus s.hi s.lo) (seed i))) (s.d_min *f of_bits binary32 0x3ca3_d70a) s.diag)
