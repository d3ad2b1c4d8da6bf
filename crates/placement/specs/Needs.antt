-- What the functions beneath the entry ask of each other. Definitions only.
use Rattle.std.specs.Prelude.{List, ℕ, ◌*◌, ◌≤◌, Float, length}
use Rattle.accept.specs.Limits.{max_surfels}
use Rattle.grid.specs.Cells.{cells}
use Rattle.seeds.specs.declared.Spacing.{Spacing}
use Rattle.placement.specs.Kept.{dims_in}
use Rattle.placement.specs.Lent.{Columns}

-- so many surfels are within their limit, and their points and the scratch are lent
pub record Held (s : Spacing) (target : ℕ) (p : List Float) (head next : List ℕ) : Type 0 where
  pub few : target ≤ max_surfels
  pub points : 3 * target ≤ length p
  pub celled : cells (dims_in s) ≤ length head
  pub linked : target ≤ length next

-- so many surfels fit into each column
pub record Roomy (count : ℕ) (l : Columns) : Type 0 where
  pub points : 3 * count ≤ length l.p
  pub normals : 3 * count ≤ length l.n
  pub albedos : 3 * count ≤ length l.albedo
  pub areas : count ≤ length l.area
  pub directs : 3 * count ≤ length l.direct
  pub irrs : 3 * count ≤ length l.irr
  pub rads : 3 * count ≤ length l.rad
