-- Answers about a grid as words, for the programs that replay answers. Definitions only.
use Rattle.std.specs.Prelude.{ℕ, ◌%◌, List, Result, Ok, Err}
use Rattle.accept.specs.Refusal.{number_of}
use Rattle.accept.specs.declared.refusal.Refusal.{Refusal}
use Rattle.grid.specs.declared.Dims.{Dims}
use Rattle.surfel.specs.declared.Reading.{Reading}
use Rattle.surfel.specs.declared.Reading.TheVariants.{Seen, Unseen}
use Rattle.replay.specs.Words.{answered, none, with}
use Rattle.replay.specs.Vectors.{with_vector}

-- 0 and the dimensions of the grid that was built, or the refusal's number alone
abbrev pub built : Result Dims Refusal → List ℕ
built (Ok dim) = with (with (with answered (dim.x % 4294967296)) (dim.y % 4294967296)) (dim.z % 4294967296)
built (Err refusal) = with none (number_of refusal)

-- 0, then 1 and the light or 0, or the refusal's number alone
abbrev pub read : Result Reading Refusal → List ℕ
read (Ok (Seen light)) = with_vector (with answered 1) light
read (Ok Unseen) = with answered 0
read (Err refusal) = with none (number_of refusal)
