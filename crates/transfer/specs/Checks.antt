-- Whether a solve is accepted: document 01, 'Refused calls', 2, 4, 5 and 7. irr and rad may be any float. Definitions only.
use Rattle.std.specs.Prelude.{Bool, [], ◌∷◌, ℕ, leb, ltb, length, Result}
use Rattle.float.specs.Arithmetic.{0f}
use Rattle.accept.specs.Every.{conj}
use Rattle.accept.specs.Limits.{max_surfels, max_clusters, max_bounces, max_links, max_albedo, max_amount, max_cluster_area, max_weight}
use Rattle.accept.specs.Ranges.{floats_within}
use Rattle.accept.specs.declared.refusal.Refusal.{Refusal}
use Rattle.accept.specs.declared.refusal.Refusal.TheVariants as refusal
use Rattle.accept.specs.Refusal.{checked}
use Rattle.accept.specs.Tables.{at_most, holds, column, numbers_below, links_ascend, ranges_contiguous}
use Rattle.transfer.specs.Room.{Clusters, Rows, Room}

-- 2: the counts, and the limit of bounces
unfoldable pub counts_within : ℕ → ℕ → ℕ → ℕ → ℕ → Bool
counts_within n nc members links limit =
    conj (at_most n max_surfels ∷ at_most nc max_clusters ∷ at_most members max_surfels ∷ at_most links max_links ∷ at_most limit max_bounces ∷ [])

-- 4: the columns of the surfels; irr and rad are given by their lengths
unfoldable pub surfels_hold : Room → ℕ → ℕ → Bool
surfels_hold r irr rad = conj (column r.albedo r.n ∷ leb r.n (length r.area) ∷ column r.direct r.n ∷ holds irr r.n 3 ∷ holds rad r.n 3 ∷ [])

-- the columns of the clusters and the members; the scratch is given by its length
unfoldable pub clusters_hold : Clusters → ℕ → Bool
clusters_hold cs scratch =
    conj (leb cs.nc (length cs.area)
    ∷ leb cs.nc (length cs.first)
    ∷ leb cs.nc (length cs.count)
    ∷ leb cs.members (length cs.member)
    ∷ holds scratch cs.nc 3
    ∷ [])

-- the starts of n rows, and the links
unfoldable pub rows_hold : ℕ → Rows → Bool
rows_hold n rs = conj (ltb n (length rs.starts) ∷ leb rs.links (length rs.cluster) ∷ leb rs.links (length rs.weight) ∷ [])

-- 5: albedo, area, direct light, the clusters' areas, the links' weights
unfoldable pub floats_fit : Room → Bool
floats_fit r =
    conj (floats_within r.albedo r.n 3 0f max_albedo
    ∷ floats_within r.area r.n 1 0f max_amount
    ∷ floats_within r.direct r.n 3 0f max_amount
    ∷ floats_within r.clusters.area r.clusters.nc 1 0f max_cluster_area
    ∷ floats_within r.rows.weight r.rows.links 1 0f max_weight
    ∷ [])

-- 7: rows of links that ascend, links to clusters, ranges of members that are contiguous, members among the surfels
unfoldable pub numbers_fit : Room → Bool
numbers_fit r =
    let cs = r.clusters in
    let rs = r.rows in
    conj (links_ascend rs.starts r.n rs.cluster rs.links
    ∷ numbers_below rs.cluster rs.links cs.nc
    ∷ ranges_contiguous cs.first cs.count cs.nc cs.members
    ∷ numbers_below cs.member cs.members r.n
    ∷ [])

-- why a solve of the room with this limit is refused, if it is; irr, rad and scratch are given by their lengths
unfoldable pub check : Room → ℕ → ℕ → ℕ → ℕ → Result Unit Refusal
check r limit irr rad scratch =
    let cs = r.clusters in
    checked ((refusal.Count, counts_within r.n cs.nc cs.members r.rows.links limit)
    ∷ (refusal.Length, conj (surfels_hold r irr rad ∷ clusters_hold cs scratch ∷ rows_hold r.n r.rows ∷ []))
    ∷ (refusal.Float, floats_fit r)
    ∷ (refusal.Numbers, numbers_fit r)
    ∷ [])
