-- A column of floats: what stands at a place of a lent slice. Definitions only.
use Rattle.std.specs.Prelude.{ℕ, List, slice_index_or, Float}
use Rattle.std.specs.Float.{nan}

-- the float at place k; outside the list, NaN
abbrev pub float_at : List Float → ℕ → Float
float_at l k = slice_index_or l k nan
