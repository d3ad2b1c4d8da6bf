-- What the entries of the reading answer and leave, refused or not: document 01, 'The reading' and 'Refused calls'. Definitions only.
use Rattle.std.specs.Prelude.{true, ◌&&◌, List, ℕ, Result, Ok, Err, Float, length}
use Rattle.vector.specs.declared.Vec3.{Vec3}
use Rattle.vector.specs.Flat.{vec_at, filled, written}
use Rattle.vector.specs.Vector.{zero_vec}
use Rattle.accept.specs.Ranges.{point}
use Rattle.accept.specs.Refusal.{outcome}
use Rattle.accept.specs.declared.refusal.Refusal.{Refusal}
use Rattle.grid.specs.declared.checks.Own.{Own}
use Rattle.grid.specs.Lent.{Grid}
use Rattle.surfel.specs.declared.Reading.{Reading}
use Rattle.surfel.specs.declared.Reading.TheVariants.{Seen, Unseen}
use Rattle.surfel.specs.Checks.{radius_within, check, Probes, check_all}
use Rattle.surfel.specs.Gathering.{Surfels, gather}

-- what the tests of a point, its normal and the radius say
abbrev pub point_own : Vec3 → Vec3 → Float → Own
point_own at normal radius = record { few = true; ranged = radius_within radius; lent = true; floats = point at && point normal }

-- the reading at one point
unfoldable pub gather_answer : Grid → Surfels → Vec3 → Vec3 → Float → Result Reading Refusal
gather_answer g s at normal radius = outcome Err (Ok (gather g s at normal radius)) (check g s (point_own at normal radius))

-- 1 where the light is seen, 0 where it is not
abbrev pub seen_number : Reading → ℕ
seen_number (Seen light) = 1
seen_number Unseen = 0

-- the light, zero where it is unseen
abbrev pub seen_light : Reading → Vec3
seen_light (Seen light) = light
seen_light Unseen = zero_vec

-- the reading at probe i
abbrev pub reading_at : Grid → Surfels → Probes → ℕ → Reading
reading_at g s q i = gather g s (vec_at q.p i) (vec_at q.normals i) q.radius

-- what is seen at each probe, and the light there
abbrev pub all_seen : Grid → Surfels → Probes → List ℕ → List ℕ
all_seen g s q seen = filled (λ i. seen_number (reading_at g s q i)) q.count seen

abbrev pub all_light : Grid → Surfels → Probes → List Float → List Float
all_light g s q light = written (λ i. seen_light (reading_at g s q i)) q.count light

-- the readings at many points: the answer, what is seen, and the light
unfoldable pub gather_all_answer : Grid → Surfels → Probes → List ℕ → List Float → Result Unit Refusal × List ℕ × List Float
gather_all_answer g s q seen light =
    outcome (λ refusal. (Err refusal, seen, light)) (Ok tt, all_seen g s q seen, all_light g s q light)
    (check_all g s q (length seen) (length light))
