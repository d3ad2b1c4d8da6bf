-- The Halton sequence itself, over whole numbers: element i in a base is the fraction whose digits after the point are those of i, the least first. Definitions only.
use Rattle.std.specs.Prelude.{ℕ, zero, suc, ◌+◌, ◌*◌, ◌/◌, ◌%◌, ◌^◌}

-- the lowest k digits of i in a base, mirrored; over base ^ k this is element i of the sequence, where i has no more than k digits
unfoldable pub mirrored : ℕ → ℕ → ℕ → ℕ
mirrored base zero i = 0
mirrored base (suc k) i = i % base * base ^ k + mirrored base k (i / base)
