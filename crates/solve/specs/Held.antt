-- What the functions beneath the entry ask of each other. No public contract rests on these. Definitions only.
use Rattle.std.specs.Prelude.{List, [], ℕ, ◌+◌, ◌*◌, ◌≤◌, ◌<◌, Float, length, get_or}
use Rattle.float.specs.Column.{float_at}
use Rattle.float.specs.Order.{greater}
use Rattle.vector.specs.declared.Vec3.{Vec3}
use Rattle.vector.specs.Flat.{vec_at}
use Rattle.vector.specs.Fold.{total}
use Rattle.vector.specs.Vector.{over}
use Rattle.accept.specs.Tables.{number_at}
use Rattle.transfer.specs.Room.{Clusters, Room}
use Rattle.solve.specs.Bounce.{least_area}

-- all numbers of a list are below n
abbrev pub AllBelow : ℕ → List ℕ → Type 0
AllBelow n l = (k : ℕ) → k < length l → number_at l k < n

-- the clusters have their columns, and their ranges lie among the members, each of which is one of n surfels
pub record ClustersListed (n : ℕ) (cs : Clusters) : Type 0 where
  pub areas : cs.nc ≤ length cs.area
  pub firsts : cs.nc ≤ length cs.first
  pub counts : cs.nc ≤ length cs.count
  pub members : cs.members ≤ length cs.member
  pub inside : (c : ℕ) → c < cs.nc → number_at cs.first c + number_at cs.count c ≤ cs.members
  pub below : (k : ℕ) → k < cs.members → number_at cs.member k < n

-- n rows have their starts, which do not fall, and each of their links has a weight and one of nc clusters
pub record RowsLit (n links : ℕ) (starts cluster : List ℕ) (weight : List Float) (nc : ℕ) : Type 0 where
  pub started : n < length starts
  pub rising : (i : ℕ) → i < n → number_at starts i ≤ number_at starts (i + 1)
  pub inside : (i : ℕ) → i ≤ n → number_at starts i ≤ links
  pub clusters : links ≤ length cluster
  pub weights : links ≤ length weight
  pub below : (k : ℕ) → k < links → number_at cluster k < nc

-- what a room that is accepted has, whatever its light
pub record RoomHeld (r : Room) : Type 0 where
  pub albedos : 3 * r.n ≤ length r.albedo
  pub areas : r.n ≤ length r.area
  pub directs : 3 * r.n ≤ length r.direct
  pub clusters_listed : ClustersListed r.n r.clusters
  pub rows_lit : RowsLit r.n r.rows.links r.rows.starts r.rows.cluster r.rows.weight r.clusters.nc

-- the vector number c of a list of triples
abbrev pub triple : List (List Float) → ℕ → Vec3
triple l c = vec_at (get_or l c []) 0

-- cluster c's light, by the power of each surfel: the sum over its members, divided by the larger of its area and 1e-12
unfoldable pub cluster_light_of : Clusters → (ℕ → Vec3) → ℕ → Vec3
cluster_light_of cs power c =
    over (total (λ j. power (number_at cs.member (number_at cs.first c + j))) (number_at cs.count c)) (greater (float_at cs.area c) least_area)
