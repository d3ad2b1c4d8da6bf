-- What the functions beneath the entry say to each other. No public contract rests on these. Definitions only.
use Rattle.std.specs.Prelude.{List, ℕ, ◌*◌, Float, Result}
use Rattle.vector.specs.Flat.{vec_at}
use Rattle.vector.specs.Vector.{zero_vec}
use Rattle.accept.specs.declared.refusal.Refusal.{Refusal}
use Rattle.reset.specs.Resetting.{check}
use Rattle.records.specs.declared.Light.{Light}

-- why a reset to this light of n records is refused, if it is
unfoldable pub check_for : List Float → ℕ → Result Unit Refusal
check_for light n = check light (3 * n) (3 * n) (3 * n)

-- record number i of a reset to this light
unfoldable pub light_at : List Float → ℕ → Light
light_at light i = record { direct = vec_at light i; irr = zero_vec; rad = vec_at light i }
