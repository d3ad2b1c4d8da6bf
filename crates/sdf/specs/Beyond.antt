-- A shortcut of the code that spares a root: whether a shape is surely no nearer than a distance that is already known. The distances don't rest on it,
-- and no entry's contract speaks of it; what it promises of the distance is in proofs/Spared.antt. Definitions only.
use Rattle.std.specs.Prelude.{Bool, false, ◌&&◌, Float}
use Rattle.std.specs.Float.{binary32}
use Rattle.std.specs.Float.Ieee.{lt, le, of_bits}
use Rattle.float.specs.Arithmetic.{◌+f◌, ◌-f◌, ◌*f◌, ◌/f◌, 0f, 1f}
use Rattle.float.specs.Order.{greater, clamp}
use Rattle.vector.specs.declared.Vec3.{Vec3}
use Rattle.vector.specs.Vector.{vec, zero_vec, dot, minus, scaled, absolutes, greaters, length_squared}
use Rattle.sdf.specs.declared.Shape.{Shape}
use Rattle.sdf.specs.declared.Shape.TheVariants.{Sphere, RoundBox, Plane, Capsule, Torus, Cylinder, Cone}

-- 1.0001: how far above best + r the bound is taken, so that it is above in spite of rounding
abbrev pub margin : Float
margin = of_bits binary32 0x3f80_0347

-- a bound for the root: a little above best + r
unfoldable pub bound : Float → Float → Float
bound r best = (best +f r) *f margin

-- whether u less r is no less than best, and the square of u is below a square: then the root of that square, less r, is no less than best
unfoldable pub clears : Float → Float → Float → Float → Bool
clears square r best u = lt 0f best && le 0f r && lt 0f u && le r u && le best (u -f r) && lt (u *f u) square

-- whether the root of a square, less r, is surely not below best
unfoldable pub beyond : Float → Float → Float → Bool
unfolding clears bound
beyond square r best = clears square r best (bound r best)

-- the same of a sphere, of a rounded box where p lies outside the box that is r further in, and of a capsule
unfoldable pub far_sphere : Vec3 → Float → Vec3 → Float → Bool
unfolding beyond
far_sphere c r p best = beyond (length_squared (minus p c)) r best

unfoldable pub far_box : Vec3 → Vec3 → Float → Vec3 → Float → Bool
unfolding beyond
far_box c b r p best =
    let q = minus (absolutes (minus p c)) (minus b (vec r r r)) in
    le 0f (greater q.x (greater q.y q.z)) && beyond (length_squared (greaters q zero_vec)) r best

unfoldable pub far_capsule : Vec3 → Vec3 → Float → Vec3 → Float → Bool
unfolding beyond
far_capsule a b r p best =
    let pa = minus p a in
    let ba = minus b a in
    let h = clamp (dot pa ba /f dot ba ba) 0f 1f in
    beyond (length_squared (minus pa (scaled ba h))) r best

-- whether a shape is surely no nearer to p than best; false for the others, of which it is not asked
unfoldable pub far : Shape → Vec3 → Float → Bool
unfolding far_sphere far_box far_capsule
far (Sphere c r) p best = far_sphere c r p best
far (RoundBox c b r) p best = far_box c b r p best
far (Plane n h) p best = false
far (Capsule a b r) p best = far_capsule a b r p best
far (Torus c major minor) p best = false
far (Cylinder a b r) p best = false
far (Cone a b ra rb) p best = false
