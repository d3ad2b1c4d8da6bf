-- How much a surfel counts, and what the weighed surfels say: document 01, 'The reading', in its order of float steps. Definitions only.
use Rattle.std.specs.Prelude.{Bool, cond, ◌&&◌, Float}
use Rattle.std.specs.Float.{binary32}
use Rattle.std.specs.Float.Ieee.{of_bits, le, lt}
use Rattle.float.specs.Arithmetic.{◌+f◌, ◌-f◌, ◌*f◌, ◌/f◌, 0f, 1f}
use Rattle.vector.specs.declared.Vec3.{Vec3}
use Rattle.vector.specs.Vector.{dot, plus, minus, scaled, over, length_squared, zero_vec}
use Rattle.surfel.specs.declared.Probe.{Probe}
use Rattle.surfel.specs.declared.Reading.{Reading}
use Rattle.surfel.specs.declared.Reading.TheVariants.{Seen, Unseen}
use Rattle.surfel.specs.declared.Surfel.{Surfel}
use Rattle.surfel.specs.declared.Weighed.{Weighed}

-- 0.15, which the dot product of the normals has to exceed
abbrev pub align_limit : Float
align_limit = of_bits binary32 0x3e19_999a

-- 0.000001, which the sum of the weights has to exceed
abbrev pub weight_limit : Float
weight_limit = of_bits binary32 0x3586_37bd

-- a surfel counts if its squared distance is at most the radius squared and its normal's dot with the probe's is over 0.15
abbrev pub counts_at : Float → Float → Float → Bool
counts_at d2 r2 align = le d2 r2 && lt align_limit align

-- t × t × dot, with t = 1 − squared distance / radius squared
unfoldable pub weight : Float → Float → Float → Float
weight d2 r2 align = let t = 1f -f d2 /f r2 in t *f t *f align

-- the sums, with a weight w of the surfel's irr
abbrev pub joined : Weighed → Vec3 → Float → Weighed
joined a irr w = record { light = plus a.light (scaled irr w); weight = a.weight +f w }

-- the sums, with the surfel s if it counts
unfoldable pub weigh : Probe → Weighed → Surfel → Weighed
weigh probe a s =
    let d2 = length_squared (minus s.p probe.p) in
    let align = dot s.n probe.n in
    cond (counts_at d2 probe.r2 align) (joined a s.irr (weight d2 probe.r2 align)) a

-- no surfel weighed
abbrev pub nothing : Weighed
nothing = record { light = zero_vec; weight = 0f }

-- seen with the weighted sum over the weight sum if that exceeds 0.000001, else unseen; a NaN sum does not exceed it
unfoldable pub reading : Weighed → Reading
reading a = cond (lt weight_limit a.weight) (Seen (over a.light a.weight)) Unseen
