-- The cone between two points, with a radius at each: document 01, 'Distance and marching', in the Rust's order of float steps; Quilez's 'capped cone', of
-- his article 'distance functions'. A flat one, whose axis dot itself is under 1e-12, is a sphere around a with the greater radius. Definitions only.
use Rattle.std.specs.Prelude.{cond, ◌&&◌, Float}
use Rattle.std.specs.Float.Ieee.{neg, lt}
use Rattle.float.specs.Arithmetic.{◌+f◌, ◌-f◌, ◌*f◌, ◌/f◌, 0f, 1f}
use Rattle.float.specs.Sign.{abs}
use Rattle.float.specs.Order.{greater, lesser, clamp}
use Rattle.float.specs.Root.{square_root}
use Rattle.vector.specs.declared.Vec3.{Vec3}
use Rattle.vector.specs.Vector.{dot, minus, length_of}
use Rattle.sdf.specs.Axis.{half, tiny}

-- x is how far p is from the axis and paba how far along it, 0 at a and 1 at b; (cax, cay) leads to the caps and (cbx, cby) to the side
unfoldable pub cone : Vec3 → Vec3 → Float → Float → Vec3 → Float
cone a b ra rb p =
    let ba = minus b a in
    let baba = dot ba ba in
    let rba = rb -f ra in
    let pa = minus p a in
    let papa = dot pa pa in
    let paba = dot pa ba /f baba in
    let x = square_root (greater (papa -f paba *f paba *f baba) 0f) in
    let cax = greater 0f (x -f cond (lt paba half) ra rb) in
    let cay = abs (paba -f half) -f half in
    let k = rba *f rba +f baba in
    let f = clamp ((rba *f (x -f ra) +f paba *f baba) /f k) 0f 1f in
    let cbx = x -f ra -f f *f rba in
    let cby = paba -f f in
    let s = cond (lt cbx 0f && lt cay 0f) (neg 1f) 1f in
    cond (lt baba tiny) (length_of pa -f greater ra rb) (s *f square_root (lesser (cax *f cax +f cay *f cay *f baba) (cbx *f cbx +f cby *f cby *f baba)))
