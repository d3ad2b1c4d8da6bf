-- Whether a solve is refused, and why, depends only on what the room needs, and a room that is not refused is not refused with another limit or other light. Assumes nothing.
use mathlib.Core.Bool.{true}
use mathlib.Core.List.{[], ◌∷◌}
use mathlib.Core.Path.{◌≡◌}
use Prim.Native.Nat.{ℕ, suc, ◌+◌, ◌*◌, ◌≤◌}
use native.Mathlib.Omega.{arith}
use Rattle.std.specs.Prelude.{Ok}
use lib.Dec.{leb}
use lib.ListN.{length}
use borrow.Author.Tests.{le-leb}
use Rattle.float.specs.Arithmetic.{0f}
use Rattle.accept.specs.Limits.{max_surfels, max_clusters, max_bounces, max_links, max_albedo, max_amount, max_cluster_area, max_weight}
use Rattle.accept.specs.Tables.{at_most, holds, column}
use Rattle.accept.proofs.Agree.{length_cut, holds_cut, floats_within_cut, numbers_below_cut, links_cut, ranges_cut}
use Rattle.accept.proofs.Bounded.{le_holds}
use Rattle.accept.proofs.Every.{conj_each}
use Rattle.transfer.specs.Room.{Clusters, Rows, Room}
use Rattle.transfer.specs.Checks.{counts_within, surfels_hold, clusters_hold, rows_hold, floats_fit, numbers_fit, check}
use Rattle.solve.specs.Calls.{cut_clusters, cut_rows, cut_room}
use Rattle.transfer.proofs.Acceptance.{not_refused, all_passed}

-- the columns of the surfels
surfels_cut : (r : Room) (irr rad : ℕ) → surfels_hold (cut_room r) irr rad ≡ surfels_hold r irr rad
unfolding surfels_hold
surfels_cut r irr rad =
    rw (holds_cut r.n 3 (3 * r.n) r.albedo (omega arith), length_cut r.n r.n r.area (omega arith), holds_cut r.n 3 (3 * r.n) r.direct (omega arith))

-- the columns of the clusters
clusters_cut : (cs : Clusters) (scratch : ℕ) → clusters_hold (cut_clusters cs) scratch ≡ clusters_hold cs scratch
unfolding clusters_hold
clusters_cut cs scratch =
    rw (
      length_cut cs.nc cs.nc cs.area (omega arith),
      length_cut cs.nc cs.nc cs.first (omega arith),
      length_cut cs.nc cs.nc cs.count (omega arith),
      length_cut cs.members cs.members cs.member (omega arith),
    )

-- the columns of the rows
rows_cut : (n : ℕ) (rs : Rows) → rows_hold n (cut_rows n rs) ≡ rows_hold n rs
unfolding rows_hold
rows_cut n rs =
    rw (
      length_cut (suc n) (n + 1) rs.starts (omega arith),
      length_cut rs.links rs.links rs.cluster (omega arith),
      length_cut rs.links rs.links rs.weight (omega arith),
    )

-- the floats in their ranges
floats_cut : (r : Room) → floats_fit (cut_room r) ≡ floats_fit r
unfolding floats_fit
floats_cut r =
    let cs = r.clusters in
    let rs = r.rows in
    rw (
      floats_within_cut r.albedo r.n 3 (3 * r.n) 0f max_albedo (omega arith),
      floats_within_cut r.area r.n 1 r.n 0f max_amount (omega arith),
      floats_within_cut r.direct r.n 3 (3 * r.n) 0f max_amount (omega arith),
      floats_within_cut cs.area cs.nc 1 cs.nc 0f max_cluster_area (omega arith),
      floats_within_cut rs.weight rs.links 1 rs.links 0f max_weight (omega arith),
    )

-- the numbers that fit together
numbers_cut : (r : Room) → numbers_fit (cut_room r) ≡ numbers_fit r
unfolding numbers_fit
numbers_cut r =
    let cs = r.clusters in
    let rs = r.rows in
    rw (
      links_cut rs.starts r.n rs.cluster rs.links,
      numbers_below_cut rs.cluster rs.links cs.nc,
      ranges_cut cs.first cs.count cs.nc cs.members,
      numbers_below_cut cs.member cs.members r.n,
    )

-- a room cut to its need is refused just as the room is
pub check_cut : (r : Room) (limit irr rad scratch : ℕ) → check (cut_room r) limit irr rad scratch ≡ check r limit irr rad scratch
unfolding check
check_cut r limit irr rad scratch =
    rw (surfels_cut r irr rad, clusters_cut r.clusters scratch, rows_cut r.n r.rows, floats_cut r, numbers_cut r)

-- counts that are within their limits are so with another limit of bounces
other_limit : (n nc members links limit other : ℕ) → other ≤ max_bounces → counts_within n nc members links limit ≡ true → counts_within n nc members links other ≡ true
unfolding counts_within
other_limit n nc members links limit other h e =
    let t = conj_each (at_most n max_surfels ∷ at_most nc max_clusters ∷ at_most members max_surfels ∷ at_most links max_links ∷ at_most limit max_bounces ∷ []) e in
    rw (t.0, t.1.0, t.1.1.0, t.1.1.1.0, le-leb other max_bounces h)

-- columns that hold the surfels do so with another irr and rad that have them
other_light : (r : Room) (irr rad irr' rad' : ℕ) → 3 * r.n ≤ irr' → 3 * r.n ≤ rad'
    → surfels_hold r irr rad ≡ true → surfels_hold r irr' rad' ≡ true
unfolding surfels_hold
other_light r irr rad irr' rad' h k e =
    let t = conj_each (column r.albedo r.n ∷ leb r.n (length r.area) ∷ column r.direct r.n ∷ holds irr r.n 3 ∷ holds rad r.n 3 ∷ []) e in
    rw (t.0, t.1.0, t.1.1.0, le_holds irr' r.n 3 (omega arith), le_holds rad' r.n 3 (omega arith))

-- a solve that is not refused is not refused with another limit within its own, and with another irr and rad that have the surfels
pub also_accepted : (r : Room) (limit irr rad scratch other irr' rad' : ℕ) → check r limit irr rad scratch ≡ Ok tt
    → other ≤ max_bounces → 3 * r.n ≤ irr' → 3 * r.n ≤ rad' → check r other irr' rad' scratch ≡ Ok tt
also_accepted r limit irr rad scratch other irr' rad' e h j k =
    let cs = r.clusters in
    let a = not_refused r limit irr rad scratch e in
    all_passed r other irr' rad' scratch
    (record {
      counts_passed = other_limit r.n cs.nc cs.members r.rows.links limit other h a.counts_passed;
      surfels_passed = other_light r irr rad irr' rad' j k a.surfels_passed;
      clusters_passed = a.clusters_passed;
      rows_passed = a.rows_passed;
      floats_passed = a.floats_passed;
      numbers_passed = a.numbers_passed;
    })
