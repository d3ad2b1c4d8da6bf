-- The numbers near a point: document 01, 'The reading' (cells within one of the point's cell, z outermost, x innermost, and point numbers in list order) and 'The grid' (the near
-- list, for a reach). Definitions only.
use Rattle.std.specs.Prelude.{List, ℕ, ◌+◌, ◌-◌, min}
use Rattle.std.proofs.Math.Seq.{slice}
use Rattle.float.specs.Arithmetic.{◌/f◌, 1f}
use Rattle.vector.specs.declared.Vec3.{Vec3}
use Rattle.vector.specs.Flat.{rows}
use Rattle.accept.specs.Tables.{number_at}
use Rattle.grid.specs.Cells.{dims_of, cell_of, cell_number}
use Rattle.grid.specs.Lent.{Grid}

-- on an axis of dim cells, those within reach of c: the first, and how many
abbrev pub first_near : ℕ → ℕ → ℕ
first_near c reach = c - reach

abbrev pub count_near : ℕ → ℕ → ℕ → ℕ
count_near c reach dim = min (c + reach) (dim - 1) + 1 - first_near c reach

-- what f gives for each of them, one after the other
abbrev pub near_cells : ℕ → ℕ → ℕ → (ℕ → List ℕ) → List ℕ
near_cells c reach dim f = rows (λ i. f (first_near c reach + i)) (count_near c reach dim)

-- the numbers of a cell
abbrev pub listed : List ℕ → List ℕ → ℕ → List ℕ
listed starts items c = slice (number_at starts c) (number_at starts (c + 1)) items

-- the numbers that are visited for a reach about p: z outermost, x innermost
unfoldable pub visited : Grid → Vec3 → ℕ → List ℕ
visited g p reach =
    let d = dims_of g.lo g.hi g.side in
    let c = cell_of p g.lo (1f /f g.side) d in
    near_cells c.z reach d.z
    (λ z. near_cells c.y reach d.y
    (λ y. near_cells c.x reach d.x
    (λ x. listed g.starts g.items (cell_number d (record { x = x; y = y; z = z })))))
