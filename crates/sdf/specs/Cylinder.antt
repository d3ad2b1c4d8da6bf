-- The cylinder between two points: document 01, 'Distance and marching', in the Rust's order of float steps; Quilez's 'capped cylinder', of his article
-- 'distance functions'. A flat one, whose axis dot itself is under 1e-12, is a sphere around a. Definitions only.
use Rattle.std.specs.Prelude.{cond, Float}
use Rattle.std.specs.Float.Ieee.{neg, lt}
use Rattle.float.specs.Arithmetic.{◌+f◌, ◌-f◌, ◌*f◌, ◌/f◌, 0f}
use Rattle.float.specs.Sign.{abs, signum}
use Rattle.float.specs.Order.{greater, lesser}
use Rattle.float.specs.Root.{square_root}
use Rattle.vector.specs.declared.Vec3.{Vec3}
use Rattle.vector.specs.Vector.{dot, minus, scaled, length_of}
use Rattle.sdf.specs.Axis.{half, tiny}

-- x is how far p is beyond the side, times baba, and y how far beyond the caps, times the length of the axis; d is the square of the distance times baba twice, below 0 inside
unfoldable pub cylinder : Vec3 → Vec3 → Float → Vec3 → Float
cylinder a b r p =
    let ba = minus b a in
    let pa = minus p a in
    let baba = dot ba ba in
    let paba = dot pa ba in
    let x = length_of (minus (scaled pa baba) (scaled ba paba)) -f r *f baba in
    let y = abs (paba -f baba *f half) -f baba *f half in
    let x2 = x *f x in
    let y2 = y *f y *f baba in
    let d = cond (lt (greater x y) 0f) (neg (lesser x2 y2)) (cond (lt 0f x) x2 0f +f cond (lt 0f y) y2 0f) in
    cond (lt baba tiny) (length_of pa -f r) (signum d *f square_root (abs d) /f baba)
