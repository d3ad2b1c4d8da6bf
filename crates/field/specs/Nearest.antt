-- What is nearest to a point: document 01, 'Distance and marching'. Planes come first, then objects in order; only a strictly smaller distance replaces the best.
-- Definitions only.
use Rattle.std.specs.Prelude.{cond, ℕ, ◌+◌, Float}
use Rattle.std.specs.Float.{binary32}
use Rattle.std.specs.Float.Ieee.{of_bits, neg, lt}
use Rattle.float.specs.Order.{greater}
use Rattle.vector.specs.declared.Vec3.{Vec3}
use Rattle.vector.specs.Fold.{fold}
use Rattle.sdf.specs.declared.Shape.{Shape}
use Rattle.sdf.specs.Distance.{dist as shape_dist}
use Rattle.field.specs.declared.DistHit.{DistHit}
use Rattle.tables.specs.declared.Part.{Part}
use Rattle.tables.specs.Tables.{Scene, prim_of, plane_of, object_of}

-- the base's distance d, then for each subtracted primitive, in order, max(d, -s)
unfoldable pub part_dist : (ℕ → Shape) → Part → Vec3 → Float
part_dist shape part p =
    fold greater (shape_dist (shape part.base) p) (λ i. neg (shape_dist (shape (part.first + i)) p)) part.many

-- a part as what may be nearest
unfoldable pub part_hit : (ℕ → Shape) → Vec3 → Part → DistHit
part_hit shape p part = record { d = part_dist shape part p; mat = part.mat }

-- the best, or the new one where its distance is strictly smaller
unfoldable pub nearer : DistHit → DistHit → DistHit
nearer best new = cond (lt new.d best.d) new best

-- the best of the first n parts and the best so far
unfoldable pub nearest_part : (ℕ → Shape) → Vec3 → DistHit → (ℕ → Part) → ℕ → DistHit
nearest_part shape p best part n = fold nearer best (λ j. part_hit shape p (part j)) n

-- nothing is near: the greatest f32, material 0
abbrev pub far : DistHit
far = record { d = of_bits binary32 0x7f7f_ffff; mat = 0 }

-- the nearest of a scene: its planes, then its objects
unfoldable pub dist_mat : Scene → Vec3 → DistHit
dist_mat s p = nearest_part (prim_of s) p (nearest_part (prim_of s) p far (plane_of s) s.planes) (object_of s) s.objects

-- its distance
abbrev pub dist : Scene → Vec3 → Float
dist s p = (dist_mat s p).d
