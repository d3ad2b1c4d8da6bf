-- A ray marched through a scene: document 01, 'Distance and marching' (`trace` answers a hit or none within 128 steps), in the order of the Rust's float steps.
-- Definitions only.
use Rattle.std.specs.Prelude.{cond, ℕ, zero, suc, ◌+◌, Float, Some, None}
use Rattle.std.specs.Float.{binary32}
use Rattle.std.specs.Float.Ieee.{of_bits, lt}
use Rattle.float.specs.Arithmetic.{◌+f◌, ◌*f◌, 1f}
use Rattle.float.specs.Order.{greater}
use Rattle.vector.specs.declared.Vec3.{Vec3}
use Rattle.vector.specs.Vector.{plus, scaled}
use Rattle.scene.specs.declared.Hit.{Hit}
use Rattle.scene.specs.declared.Traced.{Traced}
use Rattle.tables.specs.Tables.{Scene}
use Rattle.field.specs.Nearest.{dist_mat}
use Rattle.field.specs.Gradient.{normal}

-- the ray's point at t
unfoldable pub along : Vec3 → Vec3 → Float → Vec3
along ro rd t = plus ro (scaled rd t)

-- a distance below this is a hit: 0.0001, and beyond t = 1 that times t
unfoldable pub tolerance : Float → Float
tolerance t = of_bits binary32 0x38d1_b717 *f greater t 1f

-- the hit at t: its point, the normal there and the material of what is nearest
unfoldable pub hit_at : Scene → Vec3 → Vec3 → Float → Hit
hit_at s ro rd t =
    let p = along ro rd t in
    record { t = t; p = p; n = normal s p; mat = (dist_mat s p).mat }

-- at most `left` samples more, the next at t, after `made`: a hit counts four evaluations more, those of its normal
unfoldable pub trace_from : Scene → Vec3 → Vec3 → Float → ℕ → ℕ → Float → Traced
trace_from s ro rd tmax zero made t = record { found = None; evals = made }
trace_from s ro rd tmax (suc left) made t =
    let d = (dist_mat s (along ro rd t)).d in
    cond (lt d (tolerance t)) (record { found = Some (hit_at s ro rd t); evals = made + 5 })
    (cond (lt tmax (t +f d)) (record { found = None; evals = made + 1 }) (trace_from s ro rd tmax left (made + 1) (t +f d)))

-- from tmin on, at most 128 samples
unfoldable pub trace : Scene → Vec3 → Vec3 → Float → Float → Traced
trace s ro rd tmin tmax = trace_from s ro rd tmax 128 0 tmin
