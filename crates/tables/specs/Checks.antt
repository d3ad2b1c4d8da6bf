-- Whether a scene is accepted: document 01, 'Refused calls', 2, 4, 5 and 6. Definitions only.
use Rattle.std.specs.Prelude.{Bool, true, false, cond, ◌&&◌, List, [], ◌∷◌, ℕ, ◌+◌, eqb, ltb, leb, Float, length, Result}
use Rattle.std.specs.Bool.{beq}
use Rattle.float.specs.Arithmetic.{0f}
use Rattle.vector.specs.declared.Vec3.{Vec3}
use Rattle.accept.specs.Every.{every, conj}
use Rattle.accept.specs.Limits.{max_entries, max_length}
use Rattle.accept.specs.Ranges.{within, coordinate, point}
use Rattle.accept.specs.Tables.{at_most, holds, number_at, numbers_below}
use Rattle.accept.specs.Refusal.{checked}
use Rattle.accept.specs.declared.refusal.Refusal.{Refusal}
use Rattle.accept.specs.declared.refusal.Refusal.TheVariants as refusal
use Rattle.sdf.specs.declared.Shape.{Shape}
use Rattle.sdf.specs.declared.Shape.TheVariants.{Sphere, RoundBox, Plane, Capsule, Torus, Cylinder, Cone}
use Rattle.tables.specs.declared.Part.{Part}
use Rattle.tables.specs.Tables.{Scene, prim_of, plane_of, object_of}

-- 2: primitives, planes and objects within their limit
unfoldable pub counts_within : Scene → Bool
counts_within s = conj (at_most s.prims max_entries ∷ at_most s.planes max_entries ∷ at_most s.objects max_entries ∷ [])

-- 4: each table holds its entries
unfoldable pub tables_hold : Scene → Bool
tables_hold s =
    conj
    (holds (length s.kinds) s.prims 1
    ∷ holds (length s.lengths) s.prims 8
    ∷ holds (length s.plane_parts) s.planes 4
    ∷ holds (length s.object_parts) s.objects 4
    ∷ [])

-- a radius or a half-size: from 0 to 10,000
abbrev pub size_within : Float → Bool
size_within x = within x 0f max_length

-- three half-sizes
abbrev pub sizes_within : Vec3 → Bool
sizes_within b = conj (size_within b.x ∷ size_within b.y ∷ size_within b.z ∷ [])

-- every float of a shape is in its range
unfoldable pub shape_within : Shape → Bool
shape_within (Sphere c r) = point c && size_within r
shape_within (RoundBox c b r) = conj (point c ∷ sizes_within b ∷ size_within r ∷ [])
shape_within (Plane n h) = point n && coordinate h
shape_within (Capsule a b r) = conj (point a ∷ point b ∷ size_within r ∷ [])
shape_within (Torus c major minor) = conj (point c ∷ size_within major ∷ size_within minor ∷ [])
shape_within (Cylinder a b r) = conj (point a ∷ point b ∷ size_within r ∷ [])
shape_within (Cone a b ra rb) = conj (point a ∷ point b ∷ size_within ra ∷ size_within rb ∷ [])

-- every float that primitive k uses; one of kind over 6 uses none
unfoldable pub prim_within : Scene → ℕ → Bool
prim_within s k = cond (ltb 6 (number_at s.kinds k)) true (shape_within (prim_of s k))

-- 5: every primitive of the table, used or not
unfoldable pub shapes_within : Scene → Bool
shapes_within s = tables_hold s && every (prim_within s) s.prims

-- a part's base and its subtracted range are in the table, and its base is a plane exactly where the part is
unfoldable pub part_fits : Scene → Bool → Part → Bool
part_fits s plane part =
    conj
    (ltb part.base s.prims
    ∷ leb (part.first + part.many) s.prims
    ∷ beq (eqb (number_at s.kinds part.base) 2) plane
    ∷ [])

-- 6: kinds from 0 to 6, and every plane and object fits
unfoldable pub parts_fit : Scene → Bool
parts_fit s =
    conj
    (tables_hold s
    ∷ numbers_below s.kinds s.prims 7
    ∷ every (λ j. part_fits s true (plane_of s j)) s.planes
    ∷ every (λ j. part_fits s false (object_of s j)) s.objects
    ∷ [])

-- the tests in their order, each with its refusal; `floats` says whether the call's own floats are in their range
abbrev pub tests : Scene → Bool → List (Refusal × Bool)
tests s floats =
    (refusal.Count, counts_within s) ∷ (refusal.Length, tables_hold s) ∷ (refusal.Float, shapes_within s && floats) ∷ (refusal.Scene, parts_fit s) ∷ []

-- what refuses a call on this scene
unfoldable pub check : Scene → Bool → Result Unit Refusal
check s floats = checked (tests s floats)
