-- What the functions beneath the entries ask of each other. Definitions only.
use Rattle.std.specs.Prelude.{List, ◌≡◌, ℕ, ◌+◌, ◌*◌, ◌<◌, ◌≤◌, length, take}
use Rattle.std.proofs.Math.Seq.{slice}
use Rattle.std.proofs.lemmas.List.Edits.{sets}
use Rattle.vector.specs.Flat.{filled, rows}
use Rattle.accept.specs.Limits.{max_surfels}
use Rattle.accept.specs.Tables.{number_at}
use Rattle.clusters.specs.declared.Cluster.{Cluster}
use Rattle.clusters.specs.declared.Clustered.{Clustered}
use Rattle.clusters.specs.declared.Voxels.{Voxels}
use Rattle.clusters.specs.Grouping.{summed, cluster_from, group_at, group_start}
use Rattle.clusters.specs.Lent.{Surfels, Columns}
use Rattle.clusters.specs.Sorting.{in_order}

-- from 1 to 64 voxels on each axis
pub record Resolved (v : Voxels) : Type 0 where
  pub from : 1 ≤ v.res
  pub to : v.res ≤ 64

-- surfels within their limit, all of whose columns are lent, and voxels to put them in
pub record Held (s : Surfels) (v : Voxels) : Type 0 where
  pub resolved : Resolved v
  pub few : s.n ≤ max_surfels
  pub places : 3 * s.n ≤ length s.p
  pub normals : 3 * s.n ≤ length s.normals
  pub areas : s.n ≤ length s.area

-- all numbers of a list are those of n surfels
abbrev pub AllBelow : ℕ → List ℕ → Type 0
AllBelow n l = (k : ℕ) → k < length l → number_at l k < n

-- the first n numbers of a list are those of surfels
pub record Numbers (n : ℕ) (l : List ℕ) : Type 0 where
  pub held : n ≤ length l
  pub below : (k : ℕ) → k < n → number_at l k < n

-- the first numbers of a list are those of the surfels in the order of their keys
pub record Sorted (s : Surfels) (v : Voxels) (l : List ℕ) : Type 0 where
  pub held : s.n ≤ length l
  pub as_sorted : take s.n l ≡ in_order s v

-- how many groups, and how many members
abbrev pub clustered_of : List (List ℕ) → Clustered
clustered_of gs = record { clusters = length gs; members = group_start gs (length gs) }

-- the lists of groups: where each begins, how many members each has, and the members
abbrev pub first_left : List (List ℕ) → List ℕ → List ℕ
first_left gs l = filled (group_start gs) (length gs) l

abbrev pub count_left : List (List ℕ) → List ℕ → List ℕ
count_left gs l = filled (λ k. length (group_at gs k)) (length gs) l

abbrev pub member_left : List (List ℕ) → List ℕ → List ℕ
member_left gs l = sets l 0 (rows (group_at gs) (length gs))

-- the members of cluster k as the lists give them, and the cluster they make
abbrev pub members_at : List ℕ → List ℕ → List ℕ → ℕ → List ℕ
members_at first count members k = slice (number_at first k) (number_at first k + number_at count k) members

abbrev pub cluster_at : Surfels → List ℕ → List ℕ → List ℕ → ℕ → Cluster
cluster_at s first count members k = cluster_from (summed s (members_at first count members k))

-- each of m clusters lies within the lists, and its members are surfels
pub record Ranged (n m : ℕ) (first count members : List ℕ) : Type 0 where
  pub firsts : m ≤ length first
  pub counts : m ≤ length count
  pub within : (k : ℕ) → k < m → number_at first k + number_at count k ≤ length members
  pub below : (k : ℕ) → k < m → AllBelow n (members_at first count members k)

-- n entries fit into each column of clusters, and n numbers into the members
pub record Roomy (n : ℕ) (l : Columns) : Type 0 where
  pub centres : 3 * n ≤ length l.p
  pub normals : 3 * n ≤ length l.n
  pub areas : n ≤ length l.area
  pub radii : n ≤ length l.radius
  pub firsts : n ≤ length l.first
  pub counts : n ≤ length l.count
  pub members : n ≤ length l.member
