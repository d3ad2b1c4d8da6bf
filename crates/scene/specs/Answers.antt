-- What the entries answer, refused or not: document 01, 'Refused calls'. The point, the ray's origin and the closure's normal are in their range. Definitions only.
use Rattle.std.specs.Prelude.{◌&&◌, Float, Result, Ok, Err}
use Rattle.vector.specs.declared.Vec3.{Vec3}
use Rattle.accept.specs.Ranges.{point}
use Rattle.accept.specs.Refusal.{outcome}
use Rattle.accept.specs.declared.refusal.Refusal.{Refusal}
use Rattle.scene.specs.declared.Traced.{Traced}
use Rattle.scene.specs.declared.Shadow.{Shadow}
use Rattle.scene.specs.declared.Closure.{Closure}
use Rattle.tables.specs.Tables.{Scene}
use Rattle.tables.specs.Checks.{check}
use Rattle.field.specs.declared.DistHit.{DistHit}
use Rattle.field.specs.Nearest.{dist_mat}
use Rattle.field.specs.Gradient.{normal}
use Rattle.scene.specs.Marching.{trace}
use Rattle.scene.specs.Shading.{soft_shadow}
use Rattle.scene.specs.Opening.{hemisphere_closure}

-- what is nearest to p
abbrev pub dist_mat_answer : Scene → Vec3 → Result DistHit Refusal
dist_mat_answer s p = outcome Err (Ok (dist_mat s p)) (check s (point p))

-- the normal at p
abbrev pub normal_answer : Scene → Vec3 → Result Vec3 Refusal
normal_answer s p = outcome Err (Ok (normal s p)) (check s (point p))

-- what the ray from ro along rd meets
abbrev pub trace_answer : Scene → Vec3 → Vec3 → Float → Float → Result Traced Refusal
trace_answer s ro rd tmin tmax = outcome Err (Ok (trace s ro rd tmin tmax)) (check s (point ro))

-- how much of a light is seen from ro along rd
abbrev pub soft_shadow_answer : Scene → Vec3 → Vec3 → Float → Float → Float → Result Shadow Refusal
soft_shadow_answer s ro rd tmin tmax k = outcome Err (Ok (soft_shadow s ro rd tmin tmax k)) (check s (point ro))

-- the open part above p, about n
abbrev pub hemisphere_closure_answer : Scene → Vec3 → Vec3 → Float → Result Closure Refusal
hemisphere_closure_answer s p n tmax = outcome Err (Ok (hemisphere_closure s p n tmax)) (check s (point p && point n))
