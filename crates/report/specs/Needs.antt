-- What the functions beneath the entry ask of each other. Definitions only.
use Rattle.std.specs.Prelude.{List, ◌≡◌, ℕ, ◌+◌, ◌*◌, Float, length, replicate, Result, Ok, Err, cond, eqb, Option, Some, None}
use Rattle.accept.specs.Tables.{number_at}
use Rattle.vector.specs.declared.Vec3.{Vec3}
use Rattle.vector.specs.Flat.{vec_at}
use Rattle.float.specs.Arithmetic.{0f}
use Rattle.grid.specs.Cells.{dims_of, cells}
use Rattle.accept.specs.declared.refusal.Refusal.{Refusal}
use Rattle.solve.specs.declared.SolveStats.{SolveStats}
use Rattle.file.specs.declared.Counts.{Counts}
use Rattle.file.specs.declared.ProbeBox.{ProbeBox}

-- what a solve made; nothing where it was refused
abbrev pub made_by : Result SolveStats Refusal → SolveStats
made_by (Err refusal) = record { bounces = 0; change = 0f }
made_by (Ok made) = made

-- columns of the length of their need: of the surfels
pub record SurfelsCut (c : Counts) (light direct irr rad albedo area : List Float) : Type 0 where
  pub light_cut : length light ≡ 3 * c.surfels
  pub direct_cut : length direct ≡ 3 * c.surfels
  pub irr_cut : length irr ≡ 3 * c.surfels
  pub rad_cut : length rad ≡ 3 * c.surfels
  pub albedo_cut : length albedo ≡ 3 * c.surfels
  pub area_cut : length area ≡ c.surfels

-- of the clusters
pub record ClustersCut (c : Counts) (area : List Float) (first count member : List ℕ) (scratch : List Float) : Type 0 where
  pub area_cut : length area ≡ c.clusters
  pub first_cut : length first ≡ c.clusters
  pub count_cut : length count ≡ c.clusters
  pub member_cut : length member ≡ c.members
  pub scratch_cut : length scratch ≡ 3 * c.clusters

-- of the rows
pub record RowsCut (c : Counts) (starts cluster : List ℕ) (weight : List Float) : Type 0 where
  pub starts_cut : length starts ≡ c.surfels + 1
  pub cluster_cut : length cluster ≡ c.links
  pub weight_cut : length weight ≡ c.links

-- of the surfels that are read and their grid, whose starts and items are zeros as yet
pub record GridCut (c : Counts) (x : ProbeBox) (irr p normals : List Float) (starts items : List ℕ) : Type 0 where
  pub irr_cut : length irr ≡ 3 * c.surfels
  pub p_cut : length p ≡ 3 * c.surfels
  pub normals_cut : length normals ≡ 3 * c.surfels
  pub starts_cut : starts ≡ replicate (cells (dims_of x.lo x.hi x.cell) + 1) 0
  pub items_cut : items ≡ replicate c.surfels 0

-- of the probes and their readings
pub record ProbesCut (c : Counts) (p normals : List Float) (seen : List ℕ) (light : List Float) : Type 0 where
  pub p_cut : length p ≡ 3 * c.probes
  pub normals_cut : length normals ≡ 3 * c.probes
  pub seen_cut : length seen ≡ c.probes
  pub light_cut : length light ≡ 3 * c.probes

-- the light that is seen at probe i, by what was written of the readings
abbrev pub seen_in : List ℕ → List Float → ℕ → Option Vec3
seen_in seen light i = cond (eqb (number_at seen i) 1) (Some (vec_at light i)) None
