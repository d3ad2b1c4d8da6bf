-- Whether a grid is accepted: document 01, 'Refused calls', 2, 3, 4, 5 and 7. Definitions only.
use Rattle.std.specs.Prelude.{Bool, ◌&&◌, List, [], ◌∷◌, ℕ, leb, ltb, Result, Float, length}
use Rattle.vector.specs.declared.Vec3.{Vec3}
use Rattle.accept.specs.Every.{conj}
use Rattle.accept.specs.Limits.{max_surfels, min_cell, max_cell}
use Rattle.accept.specs.Ranges.{within, bounds, coordinates}
use Rattle.accept.specs.Refusal.{checked}
use Rattle.accept.specs.Tables.{at_most, column, numbers_below, starts_monotone}
use Rattle.accept.specs.declared.refusal.Refusal.{Refusal}
use Rattle.accept.specs.declared.refusal.Refusal.TheVariants as Why
use Rattle.grid.specs.declared.checks.Own.{Own}
use Rattle.grid.specs.Lent.{Grid, cells_of}
use Rattle.grid.specs.Cells.{dims_of, cells}

-- 3: the box and the side of a cell
unfoldable pub sized : Vec3 → Vec3 → Float → Bool
sized lo hi side = bounds lo hi && within side min_cell max_cell

-- 4: a start for each cell and one more, and n numbers
unfoldable pub tables_hold : Grid → Bool
tables_hold g = ltb (cells_of g) (length g.starts) && leb g.n (length g.items)

-- 7: starts from 0, never falling, to n, and numbers below n
unfoldable pub list_fits : Grid → Bool
list_fits g = starts_monotone g.starts (cells_of g) g.n && numbers_below g.items g.n g.n

-- the tests in their order, each with its refusal; those of what the call brings besides the grid are few (2), ranged (3), lent (4) and floats (5)
abbrev pub tests : Grid → Own → List (Refusal × Bool)
tests g own =
    (Why.Count, at_most g.n max_surfels && own.few)
    ∷ (Why.Range, sized g.lo g.hi g.side && own.ranged)
    ∷ (Why.Length, tables_hold g && own.lent)
    ∷ (Why.Float, own.floats)
    ∷ (Why.Numbers, list_fits g)
    ∷ []

-- what refuses a call on this grid
unfoldable pub check : Grid → Own → Result Unit Refusal
check g own = checked (tests g own)

-- the tests of n points that are put into a grid, whose slices have these lengths
abbrev pub build_tests : ℕ → List Float → Vec3 → Vec3 → Float → ℕ → ℕ → List (Refusal × Bool)
build_tests n p lo hi side starts items =
    (Why.Count, at_most n max_surfels)
    ∷ (Why.Range, sized lo hi side)
    ∷ (Why.Length, conj (column p n ∷ ltb (cells (dims_of lo hi side)) starts ∷ leb n items ∷ []))
    ∷ (Why.Float, coordinates p n)
    ∷ []

unfoldable pub check_build : ℕ → List Float → Vec3 → Vec3 → Float → ℕ → ℕ → Result Unit Refusal
check_build n p lo hi side starts items = checked (build_tests n p lo hi side starts items)
