-- The cells near a point: how they are numbered as rows that follow one another, and that their numbers tell them apart. Assumes nothing.
use mathlib.Core.Path.{◌≡◌, sym, ap, ◌∙◌}
use Prim.Native.Nat.{ℕ, suc, ◌+◌, ◌*◌, ◌≤◌, ◌<◌}
use native.Mathlib.Nat.{mul_comm, mul-suc, mul-add, mul_assoc, mul-le-mul_left}
use native.Mathlib.Omega.{arith}
use lib.Ieee.{Float}
use Rattle.float.specs.Arithmetic.{◌/f◌, 1f}
use Rattle.vector.specs.declared.Vec3.{Vec3}
use Rattle.grid.specs.declared.Cell.{Cell}
use Rattle.grid.specs.declared.Dims.{Dims}
use Rattle.grid.specs.Visiting.{first_near, count_near}
use Rattle.grid.specs.Rows.{block_near, row_cell}
use Rattle.grid.specs.Cells.{dims_of, cells, cell_of, cell_number}
use Rattle.grid.specs.Needs.{Within}
use Rattle.order.proofs.Digits.{same_digits}
use Rattle.grid.proofs.Numbered.{dims_bounded, cell_within, row_major}

-- the number of the cell x y z
abbrev pub number : Dims → ℕ → ℕ → ℕ → ℕ
number d x y z = cell_number d (record { x = x; y = y; z = z })

-- i cells further along x
pub number_along : (d : Dims) (x y z i : ℕ) → number d (x + i) y z ≡ number d x y z + i
unfolding cell_number
number_along d x y z i = omega arith

-- j rows and k layers further
number_step : (d : Dims) (x y z j k : ℕ) → number d x (y + j) (z + k) ≡ number d x y z + d.x * d.y * k + d.x * j
unfolding cell_number
number_step d x y z j k =
    let e : (y + j) + d.y * (z + k) ≡ (y + d.y * z) + (j + d.y * k) = omega (arith, mul-add d.y z k) in
    ap (λ (t : ℕ). x + d.x * t) e
    ∙ omega (arith, mul-add d.x (y + d.y * z) (j + d.y * k), mul-add d.x j (d.y * k), mul_assoc d.x d.y k)

-- a row that ends within its axis ends within the grid
number_end : (d : Dims) (x y z w : ℕ) → x + w ≤ d.x → y < d.y → z < d.z → number d x y z + w ≤ cells d
unfolding cell_number
number_end d x y z w h k l =
    let r = y + d.y * z in
    let m = row_major y d.y z d.z k l in
    omega (arith, mul-suc d.x r, mul-le-mul_left {m = suc r} {n = d.y * d.z} d.x m, mul_assoc d.x d.y d.z)

-- a cell within reach of one of the axis is one of the axis
pub near_in : (c reach dim i : ℕ) → c < dim → i < count_near c reach dim → first_near c reach + i < dim
near_in c reach dim i h k = omega arith

pub near_end : (c reach dim : ℕ) → c < dim → first_near c reach + count_near c reach dim ≤ dim
near_end c reach dim h = omega arith

-- two cells of the grid that have one number are the same
pub number_own : (d : Dims) (a b : Cell) → Within d a → Within d b → cell_number d a ≡ cell_number d b → a ≡ b
unfolding cell_number
number_own d a b h l e =
    let r = same_digits (a.y + d.y * a.z) a.x (b.y + d.y * b.z) b.x d.x h.x_in l.x_in (omega (arith, mul_comm d.x (a.y + d.y * a.z), mul_comm d.x (b.y + d.y * b.z), e)) in
    let q = same_digits a.z a.y b.z b.y d.y h.y_in l.y_in (omega (arith, mul_comm d.y a.z, mul_comm d.y b.z, r.0)) in
    rw (r.1, q.0, q.1)

module _ (lo hi : Vec3) (side : Float) (p : Vec3) (reach : ℕ) where
  abbrev d : Dims
  d = dims_of lo hi side

  abbrev c : Cell
  c = cell_of p lo (1f /f side) d

  pub inside : Within d c
  inside = cell_within p lo (1f /f side) d (dims_bounded lo hi side)

  -- the first cell of row j of layer k, and where the row ends
  abbrev pub first : ℕ → ℕ → ℕ
  first j k = number d (first_near c.x reach) (first_near c.y reach + j) (first_near c.z reach + k)

  pub first_row : (j k : ℕ) → row_cell (block_near lo hi side p reach) j k ≡ first j k
  unfolding block_near
  first_row j k = sym (number_step d (first_near c.x reach) (first_near c.y reach) (first_near c.z reach) j k)

  pub row_end : (j k : ℕ) → j < count_near c.y reach d.y → k < count_near c.z reach d.z → first j k + count_near c.x reach d.x ≤ cells d
  row_end j k a b =
      number_end d (first_near c.x reach) (first_near c.y reach + j) (first_near c.z reach + k) (count_near c.x reach d.x)
      (near_end c.x reach d.x inside.x_in) (near_in c.y reach d.y j inside.y_in a) (near_in c.z reach d.z k inside.z_in b)
