-- Sphere, rounded box, plane, capsule and torus: document 01, 'Distance and marching', in the Rust's order of float steps. The formulas are Quilez's, of his
-- article 'distance functions' (its 'rounded box' for the box). A capsule with equal ends is NaN. Definitions only.
use Rattle.std.specs.Prelude.{Float}
use Rattle.float.specs.Arithmetic.{◌+f◌, ◌-f◌, ◌*f◌, ◌/f◌, 0f, 1f}
use Rattle.float.specs.Order.{greater, lesser, clamp}
use Rattle.float.specs.Root.{square_root}
use Rattle.vector.specs.declared.Vec3.{Vec3}
use Rattle.vector.specs.Vector.{vec, zero_vec, dot, minus, scaled, absolutes, greaters, length_of}

-- how far p is from the centre, less the radius
unfoldable pub sphere : Vec3 → Float → Vec3 → Float
sphere c r p = length_of (minus p c) -f r

-- how far p is beyond the box that lies r further in, or how far within it, less r
unfoldable pub round_box : Vec3 → Vec3 → Float → Vec3 → Float
round_box c b r p =
    let q = minus (absolutes (minus p c)) (minus b (vec r r r)) in
    length_of (greaters q zero_vec) +f lesser (greater q.x (greater q.y q.z)) 0f -f r

-- how far along the normal p is, less the plane's place there
unfoldable pub plane : Vec3 → Float → Vec3 → Float
plane n h p = dot p n -f h

-- how far p is from the nearest point of the axis, less the radius
unfoldable pub capsule : Vec3 → Vec3 → Float → Vec3 → Float
capsule a b r p =
    let pa = minus p a in
    let ba = minus b a in
    let h = clamp (dot pa ba /f dot ba ba) 0f 1f in
    length_of (minus pa (scaled ba h)) -f r

-- how far p is from the circle in the middle of the tube, less the tube's radius
unfoldable pub torus : Vec3 → Float → Float → Vec3 → Float
torus c major minor p =
    let q = minus p c in
    let xz = square_root (q.x *f q.x +f q.z *f q.z) -f major in
    square_root (xz *f xz +f q.y *f q.y) -f minor
