-- What the definitions say: flat axes, points of NaN, worked distances of each shape, and where `far` is sure. That a capsule with equal ends is NaN is in Ends.antt. Assumes nothing.
use mathlib.Core.Path.{◌≡◌, refl}
use mathlib.Core.Bool.{Bool, true, false}
use mathlib.Core.List.{List, [], ◌∷◌, ◌++◌, map}
use Prim.Native.Nat.{ℕ}
use lib.IntN.{pos}
use lib.Ieee.{Float, nan, binary32, is_nan, neg, add, sub, mul, div, lt, le, of_int, of_bits}
use Rattle.float.specs.Arithmetic.{◌-f◌, ◌/f◌, 0f}
use Rattle.float.specs.Sign.{abs, signum}
use Rattle.float.specs.Order.{greater, lesser, clamp}
use Rattle.float.specs.Root.{square_root}
use Rattle.vector.specs.declared.Vec3.{Vec3}
use Rattle.vector.specs.Vector.{vec, dot, minus, scaled, absolutes, greaters, length_squared, length_of}
use Rattle.sdf.specs.declared.Shape.{Shape}
use Rattle.sdf.specs.declared.Shape.TheVariants.{Sphere, RoundBox, Plane, Capsule, Torus, Cylinder, Cone}
use Rattle.sdf.specs.Axis.{tiny}
use Rattle.sdf.specs.Solids.{sphere, round_box, plane, capsule, torus}
use Rattle.sdf.specs.Cylinder.{cylinder}
use Rattle.sdf.specs.Cone.{cone}
use Rattle.sdf.specs.Distance.{dist}
use Rattle.sdf.specs.Beyond.{far}

-- ---- a flat axis: a cylinder and a cone are spheres around a

-- whether the axis from a to b is flat
abbrev flat : Vec3 → Vec3 → Bool
flat a b = lt (dot (minus b a) (minus b a)) tiny

pub flat_cylinder : (a b : Vec3) (r : Float) (p : Vec3) → flat a b ≡ true → cylinder a b r p ≡ sphere a r p
unfolding cylinder sphere
flat_cylinder a b r p h = rw h

pub flat_cone : (a b : Vec3) (ra rb : Float) (p : Vec3) → flat a b ≡ true → cone a b ra rb p ≡ sphere a (greater ra rb) p
unfolding cone sphere
flat_cone a b ra rb p h = rw h

-- ---- a point of NaN is at NaN from four shapes, at -r from a rounded box, and at 0 from a cylinder, which divides 0 by its axis dot itself (a cone is below)

abbrev nowhere : Vec3
nowhere = vec nan nan nan

pub nan_sphere : (c : Vec3) (r : Float) → sphere c r nowhere ≡ nan
unfolding sphere minus length_of sub add mul
nan_sphere c r = refl

pub nan-round_box : (c b : Vec3) (r : Float) → round_box c b r nowhere ≡ 0f -f r
unfolding round_box minus length_of absolutes greaters greater lesser abs is_nan sub add mul of_bits
nan-round_box c b r = refl

pub nan_plane : (n : Vec3) (h : Float) → plane n h nowhere ≡ nan
unfolding plane dot sub add mul
nan_plane n h = refl

pub nan_capsule : (a b : Vec3) (r : Float) → capsule a b r nowhere ≡ nan
unfolding capsule minus length_of sub add mul
nan_capsule a b r = refl

pub nan_torus : (c : Vec3) (major minor : Float) → torus c major minor nowhere ≡ nan
unfolding torus minus square_root sub add mul
nan_torus c major minor = refl

pub nan_cylinder : (a b : Vec3) (r : Float) → flat a b ≡ false → cylinder a b r nowhere ≡ 0f /f dot (minus b a) (minus b a)
unfolding cylinder minus dot length_of scaled signum square_root abs greater lesser is_nan sub add mul lt of_bits
nan_cylinder a b r h = rw h

-- ---- worked distances

-- n as a float, and the vector of three such
abbrev whole : ℕ → Float
whole n = of_int binary32 (pos n)

abbrev at : ℕ → ℕ → ℕ → Vec3
at x y z = vec (whole x) (whole y) (whole z)

-- the radius 2 ^ -100, whose square is 0
abbrev thin : Float
thin = of_bits binary32 0x0d80_0000

-- where two short axes from the origin end: 2 ^ -20, whose square is below 1e-12, and 2 ^ -19, whose square is above
abbrev too_short : Vec3
too_short = vec 0f (of_bits binary32 0x3580_0000) 0f

abbrev long_enough : Vec3
long_enough = vec 0f (of_bits binary32 0x3600_0000) 0f

-- a shape, a point and the distance between them
abbrev Rows : Type 0
Rows = List (Shape × Vec3 × Float)

-- outside and inside
abbrev pub plain : Rows
plain =
    (Sphere (at 0 0 0) (whole 1), at 3 4 0, whole 4)
    ∷ (RoundBox (at 0 0 0) (at 4 4 4) (whole 1), at 6 7 0, whole 4)
    ∷ (RoundBox (at 0 0 0) (at 4 4 4) (whole 1), at 0 0 0, neg (whole 4))
    ∷ (Plane (at 0 1 0) (whole 1), at 5 3 7, whole 2)
    ∷ (Capsule (at 0 0 0) (at 0 2 0) (whole 1), at 3 1 4, whole 4)
    ∷ (Capsule (at 0 0 0) (at 0 2 0) (whole 1), at 3 6 0, whole 4)
    ∷ (Torus (at 0 0 0) (whole 5) (whole 1), at 6 12 8, whole 12)
    ∷ (Cylinder (at 0 0 0) (at 0 2 0) (whole 1), at 3 1 0, whole 2)
    ∷ (Cylinder (at 0 0 0) (at 0 2 0) (whole 1), at 4 6 0, whole 5)
    ∷ (Cylinder (at 0 0 0) (at 0 2 0) (whole 4), at 0 1 0, neg (whole 1))
    ∷ (Cone (at 0 0 0) (at 0 16 0) (whole 12) (whole 0), at 22 20 0, whole 20)
    ∷ (Cone (at 0 0 0) (at 0 16 0) (whole 12) (whole 0), at 2 5 0, neg (whole 5))
    ∷ []

-- the same point above a flat axis and above one that is not: from a sphere 3, from a cap 4 less the axis
abbrev pub short : Rows
short =
    (Cylinder (at 0 0 0) too_short (whole 1), at 0 4 0, whole 3)
    ∷ (Cone (at 0 0 0) too_short (whole 1) (whole 0), at 0 4 0, whole 3)
    ∷ (Cylinder (at 0 0 0) long_enough (whole 1), at 0 4 0, of_bits binary32 0x407f_fff8)
    ∷ (Cone (at 0 0 0) long_enough (whole 1) (whole 0), at 0 4 0, of_bits binary32 0x407f_fff8)
    ∷ []

-- -0 inside a cylinder and a cone so thin that a squared distance is 0, and 0 on the side of ones that are not
abbrev pub zeros : Rows
zeros =
    (Cylinder (at 0 0 0) (at 0 2 0) thin, at 0 1 0, neg 0f)
    ∷ (Cone (at 0 0 0) (at 0 2 0) thin thin, at 0 1 0, neg 0f)
    ∷ (Cylinder (at 0 0 0) (at 0 2 0) (whole 1), at 1 1 0, 0f)
    ∷ (Cone (at 0 0 0) (at 0 2 0) (whole 1) (whole 1), at 1 1 0, 0f)
    ∷ []

-- a point of NaN, and a capsule with equal ends
abbrev pub nans : Rows
nans =
    (RoundBox (at 0 0 0) (at 4 4 4) (whole 1), nowhere, neg (whole 1))
    ∷ (Cylinder (at 0 0 0) (at 0 2 0) (whole 1), nowhere, 0f)
    ∷ (Cone (at 0 0 0) (at 0 2 0) (whole 1) (whole 1), nowhere, nan)
    ∷ (Capsule (at 0 2 0) (at 0 2 0) (whole 1), at 3 6 0, nan)
    ∷ []

abbrev pub rows : Rows
rows = plain ++ short ++ zeros ++ nans

pub readings : map (λ (row : Shape × Vec3 × Float). dist row.0 row.1) rows ≡ map (λ (row : Shape × Vec3 × Float). row.2) rows
unfolding dist sphere round_box plane capsule torus cylinder cone dot minus scaled absolutes greaters length_of abs signum greater lesser clamp square_root is_nan neg add sub mul div lt of_int of_bits
readings = refl

-- ---- where `far` is sure: a shape, a point, a distance and whether the shape is surely no nearer. Each of the first five is 9 away from its point.
abbrev pub sure : List (Shape × Vec3 × Float × Bool)
sure =
    (Sphere (at 0 0 0) (whole 1), at 6 8 0, whole 8, true)
    ∷ (Sphere (at 0 0 0) (whole 1), at 6 8 0, whole 9, false)
    ∷ (RoundBox (at 0 0 0) (at 4 4 4) (whole 1), at 9 11 0, whole 8, true)
    ∷ (Capsule (at 0 0 0) (at 0 2 0) (whole 1), at 6 1 8, whole 8, true)
    ∷ (Plane (at 0 1 0) (whole 1), at 5 10 7, whole 8, false)
    ∷ (RoundBox (at 0 0 0) (at 4 4 4) (whole 1), at 0 0 0, whole 8, false)
    ∷ (Sphere (at 0 0 0) (whole 1), at 6 8 0, 0f, false)
    ∷ (Sphere (at 0 0 0) (whole 1), nowhere, whole 8, false)
    ∷ []

pub sure_readings : map (λ (row : Shape × Vec3 × Float × Bool). far row.0 row.1 row.2) sure ≡ map (λ (row : Shape × Vec3 × Float × Bool). row.3) sure
unfolding far dot minus scaled absolutes greaters length_squared abs greater clamp is_nan neg add sub mul div lt le of_int of_bits
sure_readings = refl
