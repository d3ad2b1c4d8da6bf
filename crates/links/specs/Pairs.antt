-- A surfel and a cluster: document 01, 'The rows' (skip r² < 1e-9, cosines ≤ 1e-3, factor < 2e-5, visibility ≤ 1e-3), in the order of the Rust's float steps. The surfel receives, the
-- cluster emits. Definitions only.
use Rattle.std.specs.Prelude.{Bool, true, false, cond, Float, Some, None}
use Rattle.std.specs.Float.{binary32}
use Rattle.std.specs.Float.Ieee.{of_bits, lt, le}
use Rattle.float.specs.Arithmetic.{◌+f◌, ◌-f◌, ◌*f◌, ◌/f◌}
use Rattle.float.specs.Order.{greater, clamp}
use Rattle.float.specs.Root.{square_root}
use Rattle.vector.specs.declared.Vec3.{Vec3}
use Rattle.vector.specs.Vector.{plus, minus, scaled, over, negated, dot, length_squared}
use Rattle.tables.specs.Tables.{Scene}
use Rattle.scene.specs.declared.Shadow.{Shadow}
use Rattle.scene.specs.Shading.{soft_shadow}
use Rattle.clusters.specs.declared.Cluster.{Cluster}
use Rattle.links.specs.declared.Receiver.{Receiver}
use Rattle.links.specs.declared.Pair.{Pair}

-- 0.001: what a cosine and a visibility must exceed
abbrev pub least : Float
least = of_bits binary32 0x3a83_126f

-- r², r, and the direction from the surfel to the cluster: a division for each component
unfoldable pub squared : Receiver → Cluster → Float
squared a c = length_squared (minus c.p a.p)

unfoldable pub distance : Receiver → Cluster → Float
distance a c = square_root (squared a c)

unfoldable pub direction : Receiver → Cluster → Vec3
direction a c = over (minus c.p a.p) (distance a c)

-- the cosines at the surfel and at the cluster
unfoldable pub cos_receiver : Receiver → Cluster → Float
cos_receiver a c = dot a.n (direction a c)

unfoldable pub cos_cluster : Receiver → Cluster → Float
cos_cluster a c = dot c.n (negated (direction a c))

-- the form factor of a point and a disc: both cosines × area / (pi r² + area)
unfoldable pub factor : Receiver → Cluster → Float
factor a c = cos_receiver a c *f cos_cluster a c *f c.area /f (of_bits binary32 0x4049_0fdb *f squared a c +f c.area)

-- whether the two face each other, and closely enough: none of the first four tests skips the pair. A NaN is not skipped
unfoldable pub faces : Receiver → Cluster → Bool
faces a c =
    cond (lt (squared a c) (of_bits binary32 0x3089_705f)) false
    (cond (le (cos_receiver a c) least) false
    (cond (le (cos_cluster a c) least) false
    (cond (lt (factor a c) (of_bits binary32 0x37a7_c5ac)) false true)))

-- how tight the cluster is as a light: r / radius, the radius 0.0001 at least, from 1.5 to 32
unfoldable pub tightness : Float → Float → Float
tightness r radius = clamp (r /f greater radius (of_bits binary32 0x38d1_b717)) (of_bits binary32 0x3fc0_0000) (of_bits binary32 0x4200_0000)

-- how much of the cluster the surfel sees: from 0.0005 of the bounds' diagonal above it, between 0.001 of the diagonal and r - 0.75 radius
unfoldable pub seen : Scene → Float → Receiver → Cluster → Shadow
seen s diag a c =
    soft_shadow s (plus a.p (scaled a.n (diag *f of_bits binary32 0x3a03_126f))) (direction a c) (diag *f of_bits binary32 0x3a83_126f)
    (distance a c -f c.radius *f of_bits binary32 0x3f40_0000) (tightness (distance a c) c.radius)

-- a pair that faces each other is linked where its visibility exceeds 0.001, by the factor × the visibility
unfoldable pub linked_by : Float → Shadow → Pair
linked_by f v = record { weight = cond (le v.visibility least) None (Some (f *f v.visibility)); evals = v.evals }

unfoldable pub pair_of : Scene → Float → Receiver → Cluster → Pair
pair_of s diag a c = cond (faces a c) (linked_by (factor a c) (seen s diag a c)) (record { weight = None; evals = 0 })
