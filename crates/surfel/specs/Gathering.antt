-- The reading at a point: document 01, 'The reading'. Definitions only.
use mathlib.Core.List.{List, foldl}
use Rattle.std.specs.Prelude.{ℕ, Float}
use Rattle.float.specs.Arithmetic.{◌*f◌}
use Rattle.vector.specs.declared.Vec3.{Vec3}
use Rattle.vector.specs.Flat.{Slice, vec_at}
use Rattle.grid.specs.Lent.{Grid}
use Rattle.grid.specs.Visiting.{visited}
use Rattle.surfel.specs.declared.Probe.{Probe}
use Rattle.surfel.specs.declared.Reading.{Reading}
use Rattle.surfel.specs.declared.Surfel.{Surfel}
use Rattle.surfel.specs.declared.Weighed.{Weighed}
use Rattle.surfel.specs.Weighing.{weigh, nothing, reading}

-- the columns of the surfels that a reading uses
pub record Surfels : Type 0 where
  pub p : List Float
  pub normals : List Float
  pub irr : List Float

-- the surfels of these columns
abbrev pub surfels_of : List Float → List Float → List Float → Surfels
surfels_of p normals irr = record { p = p; normals = normals; irr = irr }

-- surfels, and the grid of their points
pub record Gridded : Type 0 where
  pub grid : Grid
  pub surfels : Surfels

abbrev pub gridded_of : Grid → Surfels → Gridded
gridded_of g s = record { grid = g; surfels = s }

-- the surfels that a function was lent
abbrev pub surfels_in : Slice Float → Slice Float → Slice Float → Surfels
surfels_in p normals irr = surfels_of p.entry.now normals.entry.now irr.entry.now

-- surfel number i
abbrev pub surfel_at : Surfels → ℕ → Surfel
surfel_at s i = record { p = vec_at s.p i; n = vec_at s.normals i; irr = vec_at s.irr i }

-- the surfels of these numbers weighed one after the other, after those of a
abbrev pub weigh_all : Surfels → Probe → Weighed → List ℕ → Weighed
weigh_all s probe a numbers = foldl (λ b i. weigh probe b (surfel_at s i)) a numbers

-- the reading at the point `at` with this normal: the surfels in the cells within one of the point's, as they are visited
unfoldable pub gather : Grid → Surfels → Vec3 → Vec3 → Float → Reading
gather g s at normal radius =
    reading (weigh_all s (record { p = at; n = normal; r2 = radius *f radius }) nothing (visited g at 1))
