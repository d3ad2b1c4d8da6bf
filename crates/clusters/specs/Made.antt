-- Groups that were stored, as the functions that read them again are lent them. Definitions only.
use Rattle.std.specs.Prelude.{ℕ}
use Rattle.clusters.specs.declared.Cluster.{Cluster}
use Rattle.clusters.specs.declared.aggregating.Groups.{Groups}
use Rattle.clusters.specs.Lent.{Surfels}
use Rattle.clusters.specs.Needs.{Ranged, cluster_at}

-- they lie within their lists, and their members are surfels
abbrev pub InRange : Surfels → Groups → Type 0
InRange s g = Ranged s.n g.made g.first.now g.count.now g.member.now

-- the cluster of group k
abbrev pub cluster_of : Surfels → Groups → ℕ → Cluster
cluster_of s g k = cluster_at s g.first.now g.count.now g.member.now k
