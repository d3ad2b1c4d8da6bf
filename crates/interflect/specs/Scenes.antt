-- What the entries on a scene leave through the C interface: document 01, 'Refused calls' and 'Distance and marching'. Each takes what the outs held and gives the number that is
-- returned with what the outs hold then: a refused call leaves them as they were. Definitions only.
use Rattle.std.specs.Prelude.{ℕ, Float}
use Rattle.vector.specs.declared.Vec3.{Vec3}
use Rattle.scene.specs.declared.Closure.{Closure}
use Rattle.field.specs.declared.DistHit.{DistHit}
use Rattle.scene.specs.declared.Shadow.{Shadow}
use Rattle.tables.specs.Tables.{Scene}
use Rattle.scene.specs.Answers.{dist_mat_answer, normal_answer, trace_answer, soft_shadow_answer, hemisphere_closure_answer}
use Rattle.outs.specs.Outs.{TraceOut, left}
use Rattle.outs.specs.Scenes.{trace_left}

-- the entries
abbrev pub interflect_dist_mat : Scene → Vec3 → DistHit → ℕ × DistHit
interflect_dist_mat s p held = left (dist_mat_answer s p) held

abbrev pub interflect_normal : Scene → Vec3 → Vec3 → ℕ × Vec3
interflect_normal s p held = left (normal_answer s p) held

abbrev pub interflect_trace : Scene → Vec3 → Vec3 → Float → Float → TraceOut → ℕ × TraceOut
interflect_trace s ro rd tmin tmax held = trace_left (trace_answer s ro rd tmin tmax) held

abbrev pub interflect_soft_shadow : Scene → Vec3 → Vec3 → Float → Float → Float → Shadow → ℕ × Shadow
interflect_soft_shadow s ro rd tmin tmax k held = left (soft_shadow_answer s ro rd tmin tmax k) held

abbrev pub interflect_hemisphere_closure : Scene → Vec3 → Vec3 → Float → Closure → ℕ × Closure
interflect_hemisphere_closure s p n tmax held = left (hemisphere_closure_answer s p n tmax) held
