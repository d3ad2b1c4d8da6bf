-- A grid as it is lent: document 01, 'The grid' and 'What changes shape' (lent slices with starts). Definitions only.
use Rattle.std.specs.Prelude.{List, ℕ, Float}
use Rattle.vector.specs.declared.Vec3.{Vec3}
use Rattle.vector.specs.Flat.{Slice}
use Rattle.grid.specs.Cells.{dims_of, cells}

-- n points, where each cell's numbers begin, the numbers, the box, and the side of a cell
pub record Grid : Type 0 where
  pub n : ℕ
  pub starts : List ℕ
  pub items : List ℕ
  pub lo : Vec3
  pub hi : Vec3
  pub side : Float

-- the grid of these numbers and lists
abbrev pub grid_of : ℕ → List ℕ → List ℕ → Vec3 → Vec3 → Float → Grid
grid_of n starts items lo hi side = record { n = n; starts = starts; items = items; lo = lo; hi = hi; side = side }

-- the grid that a function was lent
abbrev pub grid_in : ℕ → Slice ℕ → Slice ℕ → Vec3 → Vec3 → Float → Grid
grid_in n starts items lo hi side = grid_of n starts.entry.now items.entry.now lo hi side

-- how many cells a grid has
abbrev pub cells_of : Grid → ℕ
cells_of g = cells (dims_of g.lo g.hi g.side)
