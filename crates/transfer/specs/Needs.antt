-- What the functions beneath the entries ask of each other. No public contract rests on these. Definitions only.
use Rattle.std.specs.Prelude.{List, ℕ, ◌+◌, ◌*◌, ◌≤◌, ◌<◌, Float, length}
use Rattle.accept.specs.Tables.{number_at}
use Rattle.transfer.specs.Room.{Clusters, Rows, Room, Light}

-- each of so many members is one of n surfels, whose areas and rad are there
pub record MembersHeld (n members : ℕ) (member : List ℕ) (area rad : List Float) : Type 0 where
  pub held : members ≤ length member
  pub below : (k : ℕ) → k < members → number_at member k < n
  pub areas : n ≤ length area
  pub rads : 3 * n ≤ length rad

-- the clusters have their columns, and their ranges lie among the members
pub record ClustersHeld (n : ℕ) (cs : Clusters) (area rad : List Float) : Type 0 where
  pub areas : cs.nc ≤ length cs.area
  pub firsts : cs.nc ≤ length cs.first
  pub counts : cs.nc ≤ length cs.count
  pub inside : (c : ℕ) → c < cs.nc → number_at cs.first c + number_at cs.count c ≤ cs.members
  pub each : MembersHeld n cs.members cs.member area rad

-- each link has a weight and one of nc clusters, whose light is there
pub record LinksHeld (nc : ℕ) (rs : Rows) (light : List Float) : Type 0 where
  pub clusters : rs.links ≤ length rs.cluster
  pub weights : rs.links ≤ length rs.weight
  pub below : (k : ℕ) → k < rs.links → number_at rs.cluster k < nc
  pub lights : 3 * nc ≤ length light

-- n rows have their starts, which do not fall, and their links
pub record RowsHeld (n nc : ℕ) (rs : Rows) (light : List Float) : Type 0 where
  pub started : n < length rs.starts
  pub rising : (i : ℕ) → i < n → number_at rs.starts i ≤ number_at rs.starts (i + 1)
  pub inside : (i : ℕ) → i ≤ n → number_at rs.starts i ≤ rs.links
  pub each : LinksHeld nc rs light

-- a room that a solve accepts, with its light and a list for the clusters' light
pub record Accepted (r : Room) (l : Light) (light : List Float) : Type 0 where
  pub albedos : 3 * r.n ≤ length r.albedo
  pub directs : 3 * r.n ≤ length r.direct
  pub irrs : 3 * r.n ≤ length l.irr
  pub clusters_held : ClustersHeld r.n r.clusters r.area l.rad
  pub rows_held : RowsHeld r.n r.clusters.nc r.rows light
