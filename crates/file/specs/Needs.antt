-- What the functions beneath the public ones ask of each other, and promise. Definitions only.
use Rattle.std.specs.Prelude.{cond, List, ◌++◌, ℕ, ◌+◌, ◌<◌, ◌≤◌, leb, length, drop, Option, Some, None}
use Rattle.file.specs.declared.Column.{Column}
use Rattle.file.specs.declared.Counts.{Counts}
use Rattle.file.specs.Words.{words}
use Rattle.file.specs.Columns.{entry_from}
use Rattle.file.specs.Blocks.{end_of}

-- each entry of a column lies in the file, and no sum of places wraps
pub record Inside (b : List ℕ) (col : Column) : Type 0 where
  pub few : words b ≤ 1099511627776
  pub some : 1 ≤ col.width
  pub width_few : col.width ≤ 16
  pub count_few : col.count ≤ words b
  pub each : (i : ℕ) → i < col.count → entry_from col i + col.width ≤ words b

-- the file has the words that its counts say, and not so many (2^40) that a sum of places would wrap
pub record Ends (b : List ℕ) (c : Counts) : Type 0 where
  pub few : words b ≤ 1099511627776
  pub whole : end_of c ≤ words b

-- a list with others in front, in the place of what stood there, where there are some and the list holds them; else as it was
abbrev pub put_front : {A : Type 0} → Option (List A) → List A → List A
put_front None l = l
put_front (Some items) l = cond (leb (length items) (length l)) (items ++ drop (length items) l) l
