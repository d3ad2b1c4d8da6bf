-- Whether a reading is accepted: document 01, 'Refused calls', 2, 3, 4, 5 and 7. Points, normals and probes are coordinates; irr may be any float. Definitions only.
use Rattle.std.specs.Prelude.{Bool, ◌&&◌, List, [], ◌∷◌, ℕ, leb, Result, Float, length}
use Rattle.float.specs.Arithmetic.{0f}
use Rattle.vector.specs.Flat.{Slice}
use Rattle.accept.specs.Every.{conj}
use Rattle.accept.specs.Limits.{max_radius, max_surfels}
use Rattle.accept.specs.Ranges.{within, coordinates}
use Rattle.accept.specs.Tables.{at_most, holds, column}
use Rattle.accept.specs.declared.refusal.Refusal.{Refusal}
use Rattle.grid.specs.Checks as Grids
use Rattle.grid.specs.declared.checks.Own.{Own}
use Rattle.grid.specs.Lent.{Grid}
use Rattle.surfel.specs.Gathering.{Surfels}

-- 3: the radius
abbrev pub radius_within : Float → Bool
radius_within radius = within radius 0f max_radius

-- 4: each column holds its vectors
unfoldable pub columns_hold : ℕ → Surfels → Bool
columns_hold n s = conj (column s.p n ∷ column s.normals n ∷ column s.irr n ∷ [])

-- 5: points and normals
unfoldable pub points_within : ℕ → Surfels → Bool
points_within n s = coordinates s.p n && coordinates s.normals n

-- what refuses a reading; the tests of the call's own probes are few (2), ranged (3), lent (4) and floats (5)
unfoldable pub check : Grid → Surfels → Own → Result Unit Refusal
check g s own =
    Grids.check g
    (record {
      few = own.few;
      ranged = own.ranged;
      lent = columns_hold g.n s && own.lent;
      floats = points_within g.n s && own.floats;
    })

-- many probes: their points, their normals, and the radius
pub record Probes : Type 0 where
  pub count : ℕ
  pub p : List Float
  pub normals : List Float
  pub radius : Float

-- the probes of this number and these lists
abbrev pub probes_of : ℕ → List Float → List Float → Float → Probes
probes_of count p normals radius = record { count = count; p = p; normals = normals; radius = radius }

-- the probes that a function was lent
abbrev pub probes_in : ℕ → Slice Float → Slice Float → Float → Probes
probes_in count p normals radius = probes_of count p.entry.now normals.entry.now radius

-- 4: slices of these lengths hold so many probes, and what is seen and the light of each
unfoldable pub probes_lent : ℕ → ℕ → ℕ → ℕ → ℕ → Bool
probes_lent count p normals seen light = conj (holds p count 3 ∷ holds normals count 3 ∷ leb count seen ∷ holds light count 3 ∷ [])

-- what the tests of these probes say, whose readings go into slices of these lengths
abbrev pub probes_own : Probes → ℕ → ℕ → Own
probes_own q seen light =
    record {
      few = at_most q.count max_surfels;
      ranged = radius_within q.radius;
      lent = probes_lent q.count (length q.p) (length q.normals) seen light;
      floats = coordinates q.p q.count && coordinates q.normals q.count;
    }

-- what refuses these probes, whose readings go into slices of these lengths
abbrev pub check_all : Grid → Surfels → Probes → ℕ → ℕ → Result Unit Refusal
check_all g s q seen light = check g s (probes_own q seen light)
