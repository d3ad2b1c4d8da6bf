-- What the functions beneath the entries ask of each other. Definitions only.
use Rattle.std.specs.Prelude.{true, ◌≡◌, ℕ, ◌+◌, ◌*◌, ◌/◌, ◌≤◌, ◌<◌, List, Float, length}
use Rattle.std.specs.Simd.{first_chunks}
use Rattle.grid.specs.Checks.{list_fits}
use Rattle.grid.specs.Lent.{Grid}
use Rattle.surfel.specs.Gathering.{Surfels}

-- each column has a vector number i
pub record Named (s : Surfels) (i : ℕ) : Type 0 where
  pub p_in : 3 * i + 2 < length s.p
  pub normals_in : 3 * i + 2 < length s.normals
  pub irr_in : 3 * i + 2 < length s.irr

-- the grid's tables fit together, and each column holds a vector for each of its points
pub record Accepted (g : Grid) (s : Surfels) : Type 0 where
  pub fits : list_fits g ≡ true
  pub p_held : 3 * g.n ≤ length s.p
  pub normals_held : 3 * g.n ≤ length s.normals
  pub irr_held : 3 * g.n ≤ length s.irr

-- tables that were accepted, and each column cut into its vectors
pub record Cut (g : Grid) (s : Surfels) (p normals irr : List (List Float)) : Type 0 where
  pub held : Accepted g s
  pub p_cut : p ≡ first_chunks 3 (length s.p / 3) s.p
  pub normals_cut : normals ≡ first_chunks 3 (length s.normals / 3) s.normals
  pub irr_cut : irr ≡ first_chunks 3 (length s.irr / 3) s.irr
