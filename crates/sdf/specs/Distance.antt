-- The distance from a shape to a point: document 01, 'Distance and marching' (a primitive is one of seven cases, each with its own lengths). Definitions only.
use Rattle.std.specs.Prelude.{Float}
use Rattle.vector.specs.declared.Vec3.{Vec3}
use Rattle.sdf.specs.declared.Shape.{Shape}
use Rattle.sdf.specs.declared.Shape.TheVariants.{Sphere, RoundBox, Plane, Capsule, Torus, Cylinder, Cone}
use Rattle.sdf.specs.Solids.{sphere, round_box, plane, capsule, torus}
use Rattle.sdf.specs.Cylinder.{cylinder}
use Rattle.sdf.specs.Cone.{cone}

-- by the shape's case
unfoldable pub dist : Shape → Vec3 → Float
dist (Sphere c r) p = sphere c r p
dist (RoundBox c b r) p = round_box c b r p
dist (Plane n h) p = plane n h p
dist (Capsule a b r) p = capsule a b r p
dist (Torus c major minor) p = torus c major minor p
dist (Cylinder a b r) p = cylinder a b r p
dist (Cone a b ra rb) p = cone a b ra rb p
