-- What the comparisons of the reading decide: whether a surfel counts, and whether the light is seen. Assumes nothing.
use mathlib.Core.Bool.{true, false}
use mathlib.Core.List.{[], ◌∷◌}
use mathlib.Core.Path.{◌≡◌, refl}
use lib.Ieee.{Float, binary32, of_bits, of_fields, nan, le, lt, eq, add, sub, mul, div, round, units, odd, span, climb, size}
use Rattle.float.specs.Arithmetic.{1f}
use Rattle.vector.specs.declared.Vec3.{Vec3}
use Rattle.vector.specs.Vector.{dot, minus, over, length_squared, zero_vec}
use Rattle.surfel.specs.declared.Probe.{Probe}
use Rattle.surfel.specs.declared.Reading.TheVariants.{Seen, Unseen}
use Rattle.surfel.specs.declared.Surfel.{Surfel}
use Rattle.surfel.specs.declared.Weighed.{Weighed}
use Rattle.surfel.specs.Weighing.{align_limit, weight_limit, counts_at, weight, joined, weigh, reading}

module _ (probe : Probe) (a : Weighed) (s : Surfel) {v : Vec3} {d2 align : Float}
    (e : v ≡ minus s.p probe.p) (f : d2 ≡ length_squared v) (g : align ≡ dot s.n probe.n) where
  -- within the radius and facing the probe's way
  pub counted : {r : Weighed} → le d2 probe.r2 ≡ true → lt align_limit align ≡ true → r ≡ joined a s.irr (weight d2 probe.r2 align) → r ≡ weigh probe a s
  unfolding weigh
  counted h k m = rw (← e, ← f, ← g, h, k, m)

  -- within the radius, but turned away
  pub turned : le d2 probe.r2 ≡ true → lt align_limit align ≡ false → a ≡ weigh probe a s
  unfolding weigh
  turned h k = rw (← e, ← f, ← g, h, k)

  -- beyond the radius
  pub beyond : le d2 probe.r2 ≡ false → a ≡ weigh probe a s
  unfolding weigh
  beyond h = rw (← e, ← f, h)

-- a sum of weights over 0.000001, and another
pub seen : (a : Weighed) {light : Vec3} → lt weight_limit a.weight ≡ true → light ≡ over a.light a.weight → Seen light ≡ reading a
unfolding reading
seen a h e = rw (h, e)

pub unseen : (a : Weighed) → lt weight_limit a.weight ≡ false → Unseen ≡ reading a
unfolding reading
unseen a h = rw h

-- at the limits: a squared distance of the radius squared counts and the next float does not, a dot of 0.15 does not and the next float does, NaN does not
pub limits : counts_at 1f 1f 1f
    ∷ counts_at (of_bits binary32 0x3f80_0001) 1f 1f
    ∷ counts_at 1f 1f align_limit
    ∷ counts_at 1f 1f (of_bits binary32 0x3e19_999b)
    ∷ counts_at nan 1f 1f
    ∷ counts_at 1f 1f nan
    ∷ []
    ≡ true ∷ false ∷ false ∷ true ∷ false ∷ false ∷ []
unfolding of_bits of_fields le lt eq
limits = refl

-- a weight sum of 0.000001 is unseen, and the next float is seen
pub least : reading (record { light = zero_vec; weight = weight_limit }) ≡ Unseen
unfolding reading of_bits of_fields lt
least = refl

pub next_seen : lt weight_limit (of_bits binary32 0x3586_37be) ≡ true
unfolding of_bits of_fields lt
next_seen = refl

-- half the radius squared away, the normals' dot 0.5: 0.5 × 0.5 × 0.5
pub half_way : weight (of_bits binary32 0x3f00_0000) 1f (of_bits binary32 0x3f00_0000) ≡ of_bits binary32 0x3e00_0000
unfolding weight of_bits of_fields add sub mul div round units odd span climb size
half_way = refl
