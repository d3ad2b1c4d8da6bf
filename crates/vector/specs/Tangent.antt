-- The tangent frame: document 01, 'Distance and marching' (s is 1 for z ≥ 0, minus zero too, else -1), and Duff et al. 2017. Definitions only.
use Rattle.std.specs.Prelude.{cond, Float}
use Rattle.std.specs.Float.Ieee.{neg, le}
use Rattle.float.specs.Arithmetic.{◌+f◌, ◌*f◌, ◌/f◌, 0f, 1f}
use Rattle.vector.specs.declared.Vec3.{Vec3}
use Rattle.vector.specs.declared.Tangents.{Tangents}
use Rattle.vector.specs.Vector.{vec}

-- document 01's s
unfoldable pub sign : Float → Float
sign z = cond (le 0f z) 1f (neg 1f)

-- the frame of n by its s, a and b
abbrev pub frame_by : Vec3 → Float → Float → Float → Tangents
frame_by n s a b =
    record {
      t = vec (1f +f s *f n.x *f n.x *f a) (s *f b) (neg s *f n.x);
      b = vec b (s +f n.y *f n.y *f a) (neg n.y);
    }

-- with a = -1 / (s + z) and b = x y a: t is (1 + s x x a, s b, -s x), b is (b, s + y y a, -y)
unfoldable pub frame : Vec3 → Tangents
unfolding sign
frame n =
    let s = sign n.z in
    let a = neg 1f /f (s +f n.z) in
    frame_by n s a (n.x *f n.y *f a)
