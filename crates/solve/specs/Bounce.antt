-- One bounce: document 01, 'The solve', in its order of float steps. Definitions only.
use Rattle.std.specs.Prelude.{List, ℕ, ◌+◌, ◌-◌, Float}
use Rattle.std.specs.Float.{binary32}
use Rattle.std.specs.Float.Ieee.{of_bits}
use Rattle.float.specs.Arithmetic.{0f}
use Rattle.float.specs.Column.{float_at}
use Rattle.float.specs.Order.{greater}
use Rattle.vector.specs.declared.Vec3.{Vec3}
use Rattle.vector.specs.Flat.{vec_at, written}
use Rattle.vector.specs.Fold.{fold, total}
use Rattle.vector.specs.Vector.{plus, minus, scaled, times, over, absolutes, greatest}
use Rattle.accept.specs.Tables.{number_at}
use Rattle.transfer.specs.Room.{Clusters, Rows, Room, Light}

-- 1e-12, the least area that a cluster's sum is divided by
abbrev pub least_area : Float
least_area = of_bits binary32 0x2b8c_bccc

-- a member's rad × area, by the number of its surfel
abbrev pub member_light : List Float → List Float → ℕ → Vec3
member_light area rad i = scaled (vec_at rad i) (float_at area i)

-- cluster c's light: the sum over its members, divided by the larger of its area and 1e-12
unfoldable pub cluster_light : Clusters → List Float → List Float → ℕ → Vec3
cluster_light cs area rad c =
    over (total (λ j. member_light area rad (number_at cs.member (number_at cs.first c + j))) (number_at cs.count c))
    (greater (float_at cs.area c) least_area)

-- what link k brings of the clusters' light: that of its cluster × its weight
abbrev pub link_light : Rows → (ℕ → Vec3) → ℕ → Vec3
link_light rs light k = scaled (light (number_at rs.cluster k)) (float_at rs.weight k)

-- what row i brings of it: the sum over its links
unfoldable pub row_light : Rows → (ℕ → Vec3) → ℕ → Vec3
row_light rs light i =
    let from = number_at rs.starts i in
    total (λ j. link_light rs light (from + j)) (number_at rs.starts (i + 1) - from)

-- surfel i's rad, of its direct light, its albedo and its irr: direct + albedo × irr
abbrev pub rad_of : List Float → List Float → ℕ → Vec3 → Vec3
rad_of direct albedo i irr = plus (vec_at direct i) (times (vec_at albedo i) irr)

-- surfel i's irr after a bounce, all cluster light being of the bounce's start, and its rad
unfoldable pub new_irr : Room → List Float → ℕ → Vec3
new_irr r rad i = row_light r.rows (cluster_light r.clusters r.area rad) i

unfoldable pub new_rad : Room → List Float → ℕ → Vec3
new_rad r rad i = rad_of r.direct r.albedo i (new_irr r rad i)

-- the light after a bounce
unfoldable pub bounce : Room → Light → Light
bounce r l = record { irr = written (new_irr r l.rad) r.n l.irr; rad = written (new_rad r l.rad) r.n l.rad }

-- the greatest absolute step of a channel from one vector to another
abbrev pub step : Vec3 → Vec3 → Float
step from to = greatest (absolutes (minus to from))

-- the greatest absolute step of any channel of the first n vectors, from 0; a NaN is passed over
unfoldable pub greatest_step : (ℕ → Vec3) → (ℕ → Vec3) → ℕ → Float
greatest_step from to n = fold greater 0f (λ i. step (from i) (to i)) n

-- the last change: that of rad in a bounce
unfoldable pub change : Room → List Float → Float
change r rad = greatest_step (vec_at rad) (new_rad r rad) r.n
