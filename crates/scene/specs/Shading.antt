-- How much of a light is seen through a scene: document 01, 'Distance and marching' (`soft_shadow` within 96) and 'Tempting, and false' (no closest-approach correction when the
-- ray recedes), in the order of the Rust's float steps. Quilez's article 'soft shadows in raymarched SDFs' has, as far as we know it, the correction without the test. Definitions only.
use Rattle.std.specs.Prelude.{cond, ℕ, zero, suc, ◌+◌, Float}
use Rattle.std.specs.Float.{binary32}
use Rattle.std.specs.Float.Ieee.{of_bits, lt}
use Rattle.float.specs.Arithmetic.{◌+f◌, ◌-f◌, ◌*f◌, ◌/f◌, 0f, 1f}
use Rattle.float.specs.Order.{greater, lesser, clamp}
use Rattle.float.specs.Root.{square_root}
use Rattle.vector.specs.declared.Vec3.{Vec3}
use Rattle.scene.specs.declared.Approach.{Approach}
use Rattle.scene.specs.declared.Shadow.{Shadow}
use Rattle.tables.specs.Tables.{Scene}
use Rattle.field.specs.Nearest.{dist}
use Rattle.scene.specs.Marching.{along}

-- the approach by the correction: y back along the ray, d from the surface there
unfoldable pub closest_approach : Float → Float → Approach
closest_approach h ph =
    let y = h *f h /f (of_bits binary32 0x4000_0000 *f ph) in
    record { y = y; d = square_root (greater (h *f h -f y *f y) 0f) }

-- of a sample h after a sample ph: corrected where h is below ph, else at the sample itself
unfoldable pub approach : Float → Float → Approach
approach h ph = cond (lt h ph) (closest_approach h ph) (record { y = 0f; d = h })

-- the visibility so far, lowered to k d / (t - y), the divisor at least 0.0001
unfoldable pub lowered : Float → Float → Float → Float → Float → Float
lowered res k h ph t =
    let a = approach h ph in
    lesser res (k *f a.d /f greater (t -f a.y) (of_bits binary32 0x38d1_b717))

-- the next sample's t: on by h, at least 0.006 and at most 0.12
unfoldable pub onward : Float → Float → Float
onward t h = t +f clamp h (of_bits binary32 0x3bc4_9ba6) (of_bits binary32 0x3df5_c28f)

-- nothing is seen
abbrev pub occluded : ℕ → Shadow
occluded evals = record { visibility = 0f; evals = evals }

-- so much is seen, from 0 to 1
unfoldable pub visible : Float → ℕ → Shadow
visible res evals = record { visibility = clamp res 0f 1f; evals = evals }

-- at most `left` samples more, the next at t if that is below tmax, after `made`, the last of them ph: occluded where a sample is below 0.0001 or the visibility below 0.001
unfoldable pub shadow_from : Scene → Vec3 → Vec3 → Float → Float → ℕ → ℕ → Float → Float → Float → Shadow
shadow_from s ro rd tmax k zero made t ph res = visible res made
shadow_from s ro rd tmax k (suc left) made t ph res =
    let h = dist s (along ro rd t) in
    let r = lowered res k h ph t in
    cond (lt t tmax)
    (cond (lt h (of_bits binary32 0x38d1_b717)) (occluded (made + 1))
    (cond (lt r (of_bits binary32 0x3a83_126f)) (occluded (made + 1)) (shadow_from s ro rd tmax k left (made + 1) (onward t h) h r)))
    (visible res made)

-- from tmin on, at most 96 samples; before the first the visibility is 1 and the last sample counts as 1e20
unfoldable pub soft_shadow : Scene → Vec3 → Vec3 → Float → Float → Float → Shadow
soft_shadow s ro rd tmin tmax k = shadow_from s ro rd tmax k 96 0 tmin (of_bits binary32 0x60ad_78ec) 1f
