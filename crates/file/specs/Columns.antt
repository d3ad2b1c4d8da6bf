-- The columns of a room file as lists: document 01, 'The room file and `roomlight`'. Definitions only.
use Rattle.std.specs.Prelude.{Bool, cond, ◌&&◌, List, [], ◌∷◌, ℕ, ◌+◌, ◌*◌, leb, Float, length}
use Rattle.vector.specs.Flat.{rows, replaced, filled}
use Rattle.accept.specs.Every.{conj}
use Rattle.accept.specs.Limits.{max_file}
use Rattle.accept.specs.Tables.{holds}
use Rattle.file.specs.declared.Column.{Column}
use Rattle.file.specs.Words.{words, word_in, float_in}

-- where entry i of a column begins
abbrev pub entry_from : Column → ℕ → ℕ
entry_from col i = col.from + col.step * i

-- the floats of entry i
abbrev pub entry_floats : List ℕ → Column → ℕ → List Float
entry_floats b col i = rows (λ j. float_in b (entry_from col i + j) ∷ []) col.width

-- a list with the column's entries in front, in the place of what stood there; a column of numbers has one word an entry
abbrev pub numbers_over : List ℕ → Column → List ℕ → List ℕ
numbers_over b col l = filled (λ i. word_in b (entry_from col i)) col.count l

abbrev pub floats_over : List ℕ → Column → List Float → List Float
floats_over b col l = replaced col.width (entry_floats b col) col.count l

-- the column's entries alone
unfoldable pub numbers_of : List ℕ → Column → List ℕ
numbers_of b col = numbers_over b col []

unfoldable pub floats_of : List ℕ → Column → List Float
floats_of b col = floats_over b col []

-- a column lies in a file: the file is no longer than a room file may be, and has all entries, of 1 to `step` words each, `step` at most 16
unfoldable pub inside : List ℕ → Column → Bool
inside b col =
    conj (leb (length b) max_file
    ∷ leb 1 col.width
    ∷ leb col.width col.step
    ∷ leb col.step 16
    ∷ leb col.count (words b)
    ∷ leb (col.from + col.step * col.count + col.width) (words b + col.step)
    ∷ [])

-- a list after a column was read into it: its entries in front where the column lies in the file and the list holds them, else as it was
unfoldable pub numbers_read : List ℕ → Column → List ℕ → List ℕ
numbers_read b col l = cond (inside b col && leb col.count (length l)) (numbers_over b col l) l

unfoldable pub floats_read : List ℕ → Column → List Float → List Float
floats_read b col l = cond (inside b col && holds (length l) col.count col.width) (floats_over b col l) l
