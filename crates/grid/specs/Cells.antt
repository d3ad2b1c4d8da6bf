-- The cells of a grid: document 01, 'The grid'. Each dimension is ceil(extent × (1 / cell)) clamped to 1..512, and coordinates clamp into the grid. Definitions only.
use Rattle.std.specs.Prelude.{List, ℕ, ◌+◌, ◌*◌, Float}
use Rattle.float.specs.Arithmetic.{◌-f◌, ◌*f◌, ◌/f◌, 1f}
use Rattle.float.specs.Cells.{cell, cell_count}
use Rattle.vector.specs.declared.Vec3.{Vec3}
use Rattle.vector.specs.Flat.{vec_at}
use Rattle.grid.specs.declared.Cell.{Cell}
use Rattle.grid.specs.declared.Dims.{Dims}

-- how many cells the box from lo to hi takes on each axis
unfoldable pub dims_of : Vec3 → Vec3 → Float → Dims
dims_of lo hi side =
    record {
      x = cell_count ((hi.x -f lo.x) *f (1f /f side));
      y = cell_count ((hi.y -f lo.y) *f (1f /f side));
      z = cell_count ((hi.z -f lo.z) *f (1f /f side));
    }

-- how many cells that makes
abbrev pub cells : Dims → ℕ
cells d = d.x * d.y * d.z

-- the cell of p, in a grid from lo on with these dimensions; inv is one over the side of a cell
unfoldable pub cell_of : Vec3 → Vec3 → Float → Dims → Cell
cell_of p lo inv d =
    record {
      x = cell ((p.x -f lo.x) *f inv) d.x;
      y = cell ((p.y -f lo.y) *f inv) d.y;
      z = cell ((p.z -f lo.z) *f inv) d.z;
    }

-- the number of a cell: x runs fastest, then y
unfoldable pub cell_number : Dims → Cell → ℕ
cell_number d c = c.x + d.x * (c.y + d.y * c.z)

-- the number of the cell of point i
unfoldable pub point_cell : List Float → Vec3 → Float → Dims → ℕ → ℕ
point_cell p lo inv d i = cell_number d (cell_of (vec_at p i) lo inv d)
