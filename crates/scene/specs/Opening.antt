-- The open part of the hemisphere above a point: document 01, 'The rows' (16 directions), the Rust's `hemisphere_closure` in its order of float steps. Definitions only.
use Rattle.std.specs.Prelude.{ℕ, ◌+◌, Float, Option, Some, None}
use Rattle.std.specs.Float.{binary32}
use Rattle.std.specs.Float.Ieee.{of_bits}
use Rattle.float.specs.Arithmetic.{◌/f◌}
use Rattle.vector.specs.declared.Vec3.{Vec3}
use Rattle.vector.specs.declared.Tangents.{Tangents}
use Rattle.vector.specs.Vector.{plus, scaled, normalize}
use Rattle.vector.specs.Tangent.{frame}
use Rattle.vector.specs.Fold.{fold}
use Rattle.scene.specs.declared.Closure.{Closure}
use Rattle.scene.specs.declared.Hit.{Hit}
use Rattle.scene.specs.declared.Openings.{Openings}
use Rattle.scene.specs.declared.Traced.{Traced}
use Rattle.tables.specs.Tables.{Scene}
use Rattle.vector.specs.Halton.{of_whole}
use Rattle.scene.specs.Directions.{direction}
use Rattle.scene.specs.Marching.{trace}

-- d's x along t, y along b and z along n
unfoldable pub in_frame : Tangents → Vec3 → Vec3 → Vec3
in_frame f n d = plus (plus (scaled f.t d.x) (scaled f.b d.y)) (scaled n d.z)

-- 0.001
abbrev pub offset : Float
offset = of_bits binary32 0x3a83_126f

-- the start of the rays: p + n × 0.001
unfoldable pub ray_start : Vec3 → Vec3 → Vec3
ray_start p n = plus p (scaled n offset)

-- the ray in direction k, from 0.001 on
unfoldable pub ray : Scene → Vec3 → Vec3 → Float → ℕ → Traced
ray s p n tmax k = trace s (ray_start p n) (normalize (in_frame (frame n) n (direction k))) offset tmax

-- a ray that met nothing counts
unfoldable pub missed_by : Option Hit → ℕ
missed_by (Some h) = 0
missed_by None = 1

-- one ray more
unfoldable pub counted : Openings → Traced → Openings
counted o r = record { missed = o.missed + missed_by r.found; evals = o.evals + r.evals }

-- the first m rays
unfoldable pub openings : Scene → Vec3 → Vec3 → Float → ℕ → Openings
openings s p n tmax m = fold counted (record { missed = 0; evals = 0 }) (ray s p n tmax) m

-- 16 rays: those that met nothing, over 16
unfoldable pub hemisphere_closure : Scene → Vec3 → Vec3 → Float → Closure
hemisphere_closure s p n tmax =
    let o = openings s p n tmax 16 in
    record { sky = of_whole o.missed /f of_whole 16; evals = o.evals }
