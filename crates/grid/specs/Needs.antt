-- What the functions beneath the entries ask of each other. Definitions only.
use Rattle.std.specs.Prelude.{List, ℕ, ◌*◌, ◌≤◌, ◌<◌, Float, length}
use Rattle.accept.specs.Limits.{max_surfels}
use Rattle.grid.specs.declared.Cell.{Cell}
use Rattle.grid.specs.declared.Dims.{Dims}
use Rattle.grid.specs.Cells.{cells}

-- dimensions from 1 to 512
pub record Bounded (d : Dims) : Type 0 where
  pub x_from : 1 ≤ d.x
  pub x_to : d.x ≤ 512
  pub y_from : 1 ≤ d.y
  pub y_to : d.y ≤ 512
  pub z_from : 1 ≤ d.z
  pub z_to : d.z ≤ 512

-- a cell of the grid
pub record Within (d : Dims) (c : Cell) : Type 0 where
  pub x_in : c.x < d.x
  pub y_in : c.y < d.y
  pub z_in : c.z < d.z

-- the points are within their limit, and each slice holds its entries
pub record Held (n : ℕ) (p : List Float) (d : Dims) (starts items : List ℕ) : Type 0 where
  pub few : n ≤ max_surfels
  pub points : 3 * n ≤ length p
  pub started : cells d < length starts
  pub held : n ≤ length items
