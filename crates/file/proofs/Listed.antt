-- A column of numbers as a list: the tests of its length. Assumes nothing.
use mathlib.Core.List.{List}
use mathlib.Core.Bool.{true}
use mathlib.Core.Path.{◌≡◌}
use Prim.Native.Nat.{ℕ, ◌<◌, ◌≤◌}
use native.Mathlib.Omega.{arith}
use lib.Dec.{leb, ltb}
use lib.ListN.{length}
use borrow.Author.Tests.{le-leb, lt-ltb}
use Rattle.file.specs.declared.Column.{Column}
use Rattle.file.specs.Columns.{numbers_of}
use Rattle.file.proofs.Entries.{numbers_length}

-- the tests that it has n numbers, or more than n
pub numbers_held : (b : List ℕ) (col : Column) (n : ℕ) → n ≤ col.count → leb n (length (numbers_of b col)) ≡ true
numbers_held b col n h = le-leb n (length (numbers_of b col)) (omega (arith, numbers_length b col))

pub numbers_past : (b : List ℕ) (col : Column) (n : ℕ) → n < col.count → ltb n (length (numbers_of b col)) ≡ true
numbers_past b col n h = lt-ltb n (length (numbers_of b col)) (omega (arith, numbers_length b col))
