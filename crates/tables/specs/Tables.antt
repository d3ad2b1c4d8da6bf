-- A scene lent as tables: document 01, 'Distance and marching'. A primitive has a kind, 0 to 6 (sphere, rounded box, plane, capsule, torus, cylinder, cone), and eight floats in
-- the order of the shape's fields; a plane or an object has four numbers: its base, the first subtracted primitive, how many are subtracted, and its material. Definitions only.
use Rattle.std.specs.Prelude.{cond, List, ℕ, ◌+◌, ◌*◌, eqb, Float, drop}
use Rattle.float.specs.Column.{float_at}
use Rattle.vector.specs.Flat.{Slice, vec_at}
use Rattle.accept.specs.Tables.{number_at}
use Rattle.sdf.specs.declared.Shape.{Shape}
use Rattle.sdf.specs.declared.Shape.TheVariants.{Sphere, RoundBox, Plane, Capsule, Torus, Cylinder, Cone}
use Rattle.tables.specs.declared.Part.{Part}

-- the shape of a kind with these floats; those that the shape has no use for are ignored
unfoldable pub shape_of : ℕ → List Float → Shape
shape_of kind l =
    cond (eqb kind 0) (Sphere (vec_at l 0) (float_at l 3))
    (cond (eqb kind 1) (RoundBox (vec_at l 0) (vec_at l 1) (float_at l 6))
    (cond (eqb kind 2) (Plane (vec_at l 0) (float_at l 3))
    (cond (eqb kind 3) (Capsule (vec_at l 0) (vec_at l 1) (float_at l 6))
    (cond (eqb kind 4) (Torus (vec_at l 0) (float_at l 3) (float_at l 4))
    (cond (eqb kind 5) (Cylinder (vec_at l 0) (vec_at l 1) (float_at l 6))
    (Cone (vec_at l 0) (vec_at l 1) (float_at l 6) (float_at l 7)))))))

-- primitive k: its floats stand from place 8 k on
unfoldable pub shape_at : List ℕ → List Float → ℕ → Shape
shape_at kinds lengths k = shape_of (number_at kinds k) (drop (8 * k) lengths)

-- part j: its numbers stand from place 4 j on
abbrev pub part_at : List ℕ → ℕ → Part
part_at l j =
    record {
      base = number_at l (4 * j);
      first = number_at l (4 * j + 1);
      many = number_at l (4 * j + 2);
      mat = number_at l (4 * j + 3);
    }

-- the counts and the tables
pub record Scene : Type 0 where
  pub prims : ℕ
  pub planes : ℕ
  pub objects : ℕ
  pub kinds : List ℕ
  pub lengths : List Float
  pub plane_parts : List ℕ
  pub object_parts : List ℕ

-- primitive, plane or object number k of a scene
abbrev pub prim_of : Scene → ℕ → Shape
prim_of s k = shape_at s.kinds s.lengths k

abbrev pub plane_of : Scene → ℕ → Part
plane_of s k = part_at s.plane_parts k

abbrev pub object_of : Scene → ℕ → Part
object_of s k = part_at s.object_parts k

-- the scene of these counts and lists
abbrev pub scene_of : ℕ → ℕ → ℕ → List ℕ → List Float → List ℕ → List ℕ → Scene
scene_of prims planes objects kinds lengths plane_parts object_parts =
    record {
      prims = prims;
      planes = planes;
      objects = objects;
      kinds = kinds;
      lengths = lengths;
      plane_parts = plane_parts;
      object_parts = object_parts;
    }

-- the scene that a function was lent
abbrev pub scene_in : ℕ → ℕ → ℕ → Slice ℕ → Slice Float → Slice ℕ → Slice ℕ → Scene
scene_in prims planes objects kinds lengths plane_parts object_parts =
    scene_of prims planes objects kinds.entry.now lengths.entry.now plane_parts.entry.now object_parts.entry.now
