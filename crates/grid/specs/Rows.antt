-- The cells near a point as rows, and what one who goes over the rows asks: the cells of a row follow one another, so that the row's numbers stand together in the list. What is
-- visited is defined in Visiting, and proved to be the same (`visited_rows`). Definitions only.
use Rattle.std.specs.Prelude.{List, [], ◌∷◌, ℕ, ◌+◌, ◌*◌, ◌<◌, ◌≤◌, Float, drop, length}
use Rattle.std.proofs.Math.Seq.{slice}
use Rattle.float.specs.Arithmetic.{◌/f◌, 1f}
use Rattle.vector.specs.declared.Vec3.{Vec3}
use Rattle.vector.specs.Flat.{rows}
use Rattle.accept.specs.Limits.{max_surfels}
use Rattle.accept.specs.Tables.{number_at}
use Rattle.grid.specs.declared.Block.{Block}
use Rattle.grid.specs.Cells.{dims_of, cell_of, cell_number}
use Rattle.grid.specs.Lent.{Grid}
use Rattle.grid.specs.Visiting.{first_near, count_near}

-- the cells near a point as rows of cells that follow one another: what `block_near` answers
unfoldable pub block_near : Vec3 → Vec3 → Float → Vec3 → ℕ → Block
block_near lo hi side p reach =
    let d = dims_of lo hi side in
    let c = cell_of p lo (1f /f side) d in
    record {
      first = cell_number d (record { x = first_near c.x reach; y = first_near c.y reach; z = first_near c.z reach });
      wide = count_near c.x reach d.x;
      rows = count_near c.y reach d.y;
      layers = count_near c.z reach d.z;
      row_step = d.x;
      layer_step = d.x * d.y;
    }

-- the first cell of row y of layer z
abbrev pub row_cell : Block → ℕ → ℕ → ℕ
row_cell b y z = b.first + b.layer_step * z + b.row_step * y

-- where the numbers of that row begin and end
abbrev pub row_from : List ℕ → Block → ℕ → ℕ → ℕ
row_from starts b y z = number_at starts (row_cell b y z)

abbrev pub row_to : List ℕ → Block → ℕ → ℕ → ℕ
row_to starts b y z = number_at starts (row_cell b y z + b.wide)

-- the numbers of that row
abbrev pub row_listed : List ℕ → List ℕ → Block → ℕ → ℕ → List ℕ
row_listed starts items b z y = slice (row_from starts b y z) (row_to starts b y z) items

-- the numbers of a layer, of the block
abbrev pub layer_listed : List ℕ → List ℕ → Block → ℕ → List ℕ
layer_listed starts items b z = rows (row_listed starts items b z) b.rows

abbrev pub block_listed : List ℕ → List ℕ → Block → List ℕ
block_listed starts items b = rows (layer_listed starts items b) b.layers

-- those of the rows of a block, layer after layer, and of the rows from row y of layer z on
abbrev pub rows_listed : List ℕ → List ℕ → Block → List (List ℕ)
rows_listed starts items b = rows (λ z. rows (λ y. row_listed starts items b z y ∷ []) b.rows) b.layers

abbrev pub rows_left : List ℕ → List ℕ → Block → ℕ → ℕ → List (List ℕ)
rows_left starts items b z y = drop (b.rows * z + y) (rows_listed starts items b)

-- those of the rows of the cells within reach of the one that p lies in
abbrev pub rows_near : Grid → Vec3 → ℕ → List (List ℕ)
rows_near g p reach = rows_listed g.starts g.items (block_near g.lo g.hi g.side p reach)

-- each row of a block lies within starts, and its numbers within the first n of items
pub record RowsHeld (starts items : List ℕ) (n : ℕ) (b : Block) : Type 0 where
  pub started : (y z : ℕ) → y < b.rows → z < b.layers → row_cell b y z + b.wide < length starts
  pub rises : (y z : ℕ) → y < b.rows → z < b.layers → row_from starts b y z ≤ row_to starts b y z
  pub ends : (y z : ℕ) → y < b.rows → z < b.layers → row_to starts b y z ≤ n
  pub held : n ≤ length items

-- points within their limit, and at most 512 rows and layers
pub record Small (n : ℕ) (b : Block) : Type 0 where
  pub few : n ≤ max_surfels
  pub rows_few : b.rows ≤ 512
  pub layers_few : b.layers ≤ 512

-- and the next row is number y of its layer
pub record RowsLeft (starts items : List ℕ) (b : Block) (y : ℕ) : Type 0 where
  pub held : RowsHeld starts items (length items) b
  pub next : y < b.rows
