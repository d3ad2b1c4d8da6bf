-- What the dimensions of a grid say of its cells and their numbers. Assumes nothing.
use mathlib.Core.List.{List}
use Prim.Native.Nat.{ℕ, suc, ◌+◌, ◌*◌, ◌≤◌, ◌<◌}
use native.Mathlib.Nat.{mul-suc, mul_assoc, mul-le-mul, mul-le-mul_left}
use native.Mathlib.Omega.{arith}
use lib.Ieee.{Float}
use Rattle.float.specs.Arithmetic.{◌-f◌, ◌*f◌, ◌/f◌, 1f}
use Rattle.float.proofs.Readings.{cell_below, count_range}
use Rattle.vector.specs.declared.Vec3.{Vec3}
use Rattle.vector.specs.Flat.{vec_at}
use Rattle.grid.specs.declared.Cell.{Cell}
use Rattle.grid.specs.declared.Dims.{Dims}
use Rattle.grid.specs.Cells.{dims_of, cells, cell_of, cell_number, point_cell}
use Rattle.grid.specs.Needs.{Bounded, Within}

-- a box takes from 1 to 512 cells on each axis
pub dims_bounded : (lo hi : Vec3) (side : Float) → Bounded (dims_of lo hi side)
unfolding dims_of
dims_bounded lo hi side =
    let inv = 1f /f side in
    let a = count_range ((hi.x -f lo.x) *f inv) in
    let b = count_range ((hi.y -f lo.y) *f inv) in
    let c = count_range ((hi.z -f lo.z) *f inv) in
    record { x_from = a.0; x_to = a.1; y_from = b.0; y_to = b.1; z_from = c.0; z_to = c.1 }

-- a point's cell is one of the grid
pub cell_within : (p lo : Vec3) (inv : Float) (d : Dims) → Bounded d → Within d (cell_of p lo inv d)
unfolding cell_of
cell_within p lo inv d h =
    record {
      x_in = cell_below ((p.x -f lo.x) *f inv) d.x h.x_from;
      y_in = cell_below ((p.y -f lo.y) *f inv) d.y h.y_from;
      z_in = cell_below ((p.z -f lo.z) *f inv) d.z h.z_from;
    }

-- place a of row k, of n rows of m places
pub row_major : (a m k n : ℕ) → a < m → k < n → a + m * k < m * n
row_major a m k n h l = omega (arith, mul-suc m k, mul-le-mul_left {m = suc k} {n = n} m l)

-- the number of a cell of the grid is below how many there are
pub number_below : (d : Dims) (c : Cell) → Within d c → cell_number d c < cells d
unfolding cell_number
number_below d c h =
    let k = c.y + d.y * c.z in
    let l : k < d.y * d.z = row_major c.y d.y c.z d.z h.y_in h.z_in in
    omega (arith, row_major c.x d.x k (d.y * d.z) h.x_in l, mul_assoc d.x d.y d.z)

pub point_below : (p : List Float) (lo : Vec3) (inv : Float) (d : Dims) (i : ℕ) → Bounded d → point_cell p lo inv d i < cells d
unfolding point_cell
point_below p lo inv d i h = number_below d (cell_of (vec_at p i) lo inv d) (cell_within (vec_at p i) lo inv d h)

-- at most 512 × 512 cells in a layer, and 512 × 512 × 512 in all
pub layer_few : (d : Dims) → Bounded d → d.x * d.y ≤ 262144
layer_few d h = omega (arith, mul-le-mul {n₁ = d.x} {m₁ = d.y} {n₂ = 512} {m₂ = 512} h.x_to h.y_to)

pub cells_few : (d : Dims) → Bounded d → cells d ≤ 134217728
cells_few d h = omega (arith, mul-le-mul {n₁ = d.x * d.y} {m₁ = d.z} {n₂ = 262144} {m₂ = 512} (layer_few d h) h.z_to)
