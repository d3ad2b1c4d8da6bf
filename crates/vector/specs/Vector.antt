-- Vectors of three f32: document 01, 'The float rules below everything', in its order of float steps. Definitions only.
use Rattle.std.specs.Prelude.{Float}
use Rattle.std.specs.Float.Ieee.{neg}
use Rattle.float.specs.Arithmetic.{◌+f◌, ◌-f◌, ◌*f◌, ◌/f◌, 0f, 1f}
use Rattle.float.specs.Sign.{abs}
use Rattle.float.specs.Order.{greater, lesser}
use Rattle.float.specs.Root.{square_root}
use Rattle.vector.specs.declared.Vec3.{Vec3}

-- the vector of three floats
abbrev pub vec : Float → Float → Float → Vec3
vec a b c = record { x = a; y = b; z = c }

-- 0 0 0
abbrev pub zero_vec : Vec3
zero_vec = vec 0f 0f 0f

-- x, then y, then z, summed left to right
unfoldable pub dot : Vec3 → Vec3 → Float
dot a b = a.x *f b.x +f a.y *f b.y +f a.z *f b.z

-- y z' - y' z, and so on round
unfoldable pub cross : Vec3 → Vec3 → Vec3
cross a b = vec (a.y *f b.z -f b.y *f a.z) (a.z *f b.x -f b.z *f a.x) (a.x *f b.y -f b.x *f a.y)

-- the sum, the difference and the opposite, component by component
unfoldable pub plus : Vec3 → Vec3 → Vec3
plus a b = vec (a.x +f b.x) (a.y +f b.y) (a.z +f b.z)

unfoldable pub minus : Vec3 → Vec3 → Vec3
minus a b = vec (a.x -f b.x) (a.y -f b.y) (a.z -f b.z)

unfoldable pub negated : Vec3 → Vec3
negated a = vec (neg a.x) (neg a.y) (neg a.z)

-- each component times k
unfoldable pub scaled : Vec3 → Float → Vec3
scaled a k = vec (a.x *f k) (a.y *f k) (a.z *f k)

-- each component times the other's
unfoldable pub times : Vec3 → Vec3 → Vec3
times a b = vec (a.x *f b.x) (a.y *f b.y) (a.z *f b.z)

-- a division for each component
unfoldable pub over : Vec3 → Float → Vec3
over a k = vec (a.x /f k) (a.y /f k) (a.z /f k)

-- each component without its sign
unfoldable pub absolutes : Vec3 → Vec3
absolutes a = vec (abs a.x) (abs a.y) (abs a.z)

-- the greater, and the lesser, of each two components
unfoldable pub greaters : Vec3 → Vec3 → Vec3
greaters a b = vec (greater a.x b.x) (greater a.y b.y) (greater a.z b.z)

unfoldable pub lessers : Vec3 → Vec3 → Vec3
lessers a b = vec (lesser a.x b.x) (lesser a.y b.y) (lesser a.z b.z)

-- the greatest component: x or y, then that or z
unfoldable pub greatest : Vec3 → Float
greatest a = greater (greater a.x a.y) a.z

-- the dot product with itself, and its root
unfoldable pub length_squared : Vec3 → Float
unfolding dot
length_squared a = dot a a

unfoldable pub length_of : Vec3 → Float
unfolding length_squared square_root
length_of a = square_root (length_squared a)

-- normalising multiplies by one over the length
unfoldable pub normalize : Vec3 → Vec3
unfolding scaled length_of
normalize a = scaled a (1f /f length_of a)
