-- The radiosity balance, Goral et al. 1984: B = E + ρ × (F B), in document 01's order of float steps. B is rad, E the direct light, ρ the albedo; F takes the light of the
-- clusters, each the sum of its members' rad × area over the cluster's own area as lent, at least 1e-12, to the surfels by the weights of their rows. Definitions only.
use Rattle.std.specs.Prelude.{true, List, ◌≡◌, ℕ, zero, suc, ◌<◌, Float}
use Rattle.std.specs.Float.Ieee.{lt}
use Rattle.vector.specs.declared.Vec3.{Vec3}
use Rattle.vector.specs.Flat.{vec_at}
use Rattle.vector.specs.Vector.{plus, times}
use Rattle.transfer.specs.Room.{Room, Light}
use Rattle.solve.specs.Bounce.{cluster_light, row_light, bounce, greatest_step}
use Rattle.solve.specs.Runs.{change_limit, run}

-- (F B) at surfel i
abbrev pub arriving : Room → List Float → ℕ → Vec3
arriving r b i = row_light r.rows (cluster_light r.clusters r.area b) i

-- the right side at surfel i: E + ρ × (F B)
abbrev pub right_side : Room → List Float → ℕ → Vec3
right_side r b i = plus (vec_at r.direct i) (times (vec_at r.albedo i) (arriving r b i))

-- B is in balance: at each surfel it is the right side, bit for bit, any NaN being the same
abbrev pub Balanced : Room → List Float → Type 0
Balanced r b = (i : ℕ) → i < r.n → vec_at b i ≡ right_side r b i

-- a bounce is the right side taken at the light before: each surfel's rad becomes it, and each surfel's irr becomes (F B)
pub record RightSideTaken (r : Room) (l : Light) : Type 0 where
  pub rad_taken : (i : ℕ) → i < r.n → vec_at (bounce r l).rad i ≡ right_side r l.rad i
  pub irr_taken : (i : ℕ) → i < r.n → vec_at (bounce r l).irr i ≡ arriving r l.rad i

-- how many bounces were made before the last of so many
abbrev pub before : ℕ → ℕ
before zero = 0
before (suc k) = k

-- the light b, before the last bounce of a run that stopped, was in balance up to a step under 0.0001: that is the greatest step of a channel from b to the right side at b, a NaN passed
-- over, and that right side is what the run left. How far a further bounce would go is not said
pub record NearBalance (r : Room) (m : ℕ) (l b : Light) : Type 0 where
  pub right_side_left : (i : ℕ) → i < r.n → vec_at (run r m l).light.rad i ≡ right_side r b.rad i
  pub step_small : lt (greatest_step (vec_at b.rad) (right_side r b.rad) r.n) change_limit ≡ true
