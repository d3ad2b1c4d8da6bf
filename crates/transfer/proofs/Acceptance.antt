-- The tests that a solve which is not refused passed, and what they say of its room. Assumes nothing.
use mathlib.Core.Bool.{true}
use mathlib.Core.List.{List, [], ◌∷◌}
use mathlib.Core.Path.{◌≡◌}
use Prim.Native.Nat.{ℕ, ◌*◌, ◌≤◌}
use native.Mathlib.Omega.{arith}
use Rattle.std.specs.Prelude.{Ok}
use lib.Dec.{leb, ltb}
use lib.Ieee.{Float}
use lib.ListN.{length}
use borrow.Author.Tests.{leb-true}
use Rattle.accept.specs.Refusal.{checked}
use Rattle.accept.specs.Tables.{holds, column, numbers_below, links_ascend, ranges_contiguous}
use Rattle.accept.proofs.Bounded.{three_each, numbers_below_at}
use Rattle.accept.proofs.Every.{conj_each}
use Rattle.accept.proofs.Joined.{ranges_joined}
use Rattle.accept.proofs.Refused.{none_refused}
use Rattle.accept.proofs.Starts.{links_ascending}
use Rattle.transfer.specs.Room.{Clusters, Rows, Room, Light, light_of}
use Rattle.transfer.specs.Needs.{ClustersHeld, RowsHeld, Accepted}
use Rattle.transfer.specs.Checks.{counts_within, surfels_hold, clusters_hold, rows_hold, floats_fit, numbers_fit, check}

-- each test of a solve that is not refused passed
pub record Answered (r : Room) (limit irr rad scratch : ℕ) : Type 0 where
  pub counts_passed : counts_within r.n r.clusters.nc r.clusters.members r.rows.links limit ≡ true
  pub surfels_passed : surfels_hold r irr rad ≡ true
  pub clusters_passed : clusters_hold r.clusters scratch ≡ true
  pub rows_passed : rows_hold r.n r.rows ≡ true
  pub floats_passed : floats_fit r ≡ true
  pub numbers_passed : numbers_fit r ≡ true

-- a solve that is not refused passed them all
pub not_refused : (r : Room) (limit irr rad scratch : ℕ) → check r limit irr rad scratch ≡ Ok tt → Answered r limit irr rad scratch
unfolding check
not_refused r limit irr rad scratch e =
    let t = none_refused _ e in
    let lent = conj_each (surfels_hold r irr rad ∷ clusters_hold r.clusters scratch ∷ rows_hold r.n r.rows ∷ []) t.1.0 in
    record {
      counts_passed = t.0;
      surfels_passed = lent.0;
      clusters_passed = lent.1.0;
      rows_passed = lent.1.1.0;
      floats_passed = t.1.1.0;
      numbers_passed = t.1.1.1.0;
    }

-- and a solve whose tests passed is not refused
pub all_passed : (r : Room) (limit irr rad scratch : ℕ) → Answered r limit irr rad scratch → check r limit irr rad scratch ≡ Ok tt
unfolding check checked
all_passed r limit irr rad scratch a =
    rw (a.counts_passed, a.surfels_passed, a.clusters_passed, a.rows_passed, a.floats_passed, a.numbers_passed)

-- the columns of the surfels have an entry for each
record SurfelsHeld (r : Room) (irr rad : ℕ) : Type 0 where
  pub albedos : 3 * r.n ≤ length r.albedo
  pub areas : r.n ≤ length r.area
  pub directs : 3 * r.n ≤ length r.direct
  pub irrs : 3 * r.n ≤ irr
  pub rads : 3 * r.n ≤ rad

surfels_held : (r : Room) (irr rad : ℕ) → surfels_hold r irr rad ≡ true → SurfelsHeld r irr rad
unfolding surfels_hold
surfels_held r irr rad e =
    let h = conj_each (column r.albedo r.n ∷ leb r.n (length r.area) ∷ column r.direct r.n ∷ holds irr r.n 3 ∷ holds rad r.n 3 ∷ []) e in
    record {
      albedos = three_each (length r.albedo) r.n h.0;
      areas = leb-true _ _ h.1.0;
      directs = three_each (length r.direct) r.n h.1.1.0;
      irrs = three_each irr r.n h.1.1.1.0;
      rads = three_each rad r.n h.1.1.1.1.0;
    }

-- there is an area for each cluster, and scratch for its light
clusters_lent : (cs : Clusters) (scratch : ℕ) → clusters_hold cs scratch ≡ true → (cs.nc ≤ length cs.area) × (3 * cs.nc ≤ scratch)
unfolding clusters_hold
clusters_lent cs scratch e =
    let h =
    conj_each
    (leb cs.nc (length cs.area)
    ∷ leb cs.nc (length cs.first)
    ∷ leb cs.nc (length cs.count)
    ∷ leb cs.members (length cs.member)
    ∷ holds scratch cs.nc 3
    ∷ [])
    e
    in
    (leb-true _ _ h.0, three_each scratch cs.nc h.1.1.1.1.0)

-- there is a weight for each link
weights_lent : (n : ℕ) (rs : Rows) → rows_hold n rs ≡ true → rs.links ≤ length rs.weight
unfolding rows_hold
weights_lent n rs e =
    let h = conj_each (ltb n (length rs.starts) ∷ leb rs.links (length rs.cluster) ∷ leb rs.links (length rs.weight) ∷ []) e in
    leb-true _ _ h.1.1.0

-- clusters with an area each, and ranges and members that were tested
clusters_held : (n : ℕ) (cs : Clusters) (area rad : List Float) → cs.nc ≤ length cs.area → n ≤ length area → 3 * n ≤ length rad
    → ranges_contiguous cs.first cs.count cs.nc cs.members ≡ true → numbers_below cs.member cs.members n ≡ true → ClustersHeld n cs area rad
clusters_held n cs area rad own areas rads ranges numbers =
    let range = ranges_joined cs.first cs.count cs.nc cs.members ranges in
    let number = numbers_below_at cs.member cs.members n numbers in
    record {
      areas = own;
      firsts = range.0;
      counts = range.1;
      inside = range.2.inside;
      each = record { held = number.0; below = number.1; areas = areas; rads = rads };
    }

-- rows with a weight a link, and starts and links that were tested
rows_held : (n nc : ℕ) (rs : Rows) (light : List Float) → rs.links ≤ length rs.weight → 3 * nc ≤ length light
    → links_ascend rs.starts n rs.cluster rs.links ≡ true → numbers_below rs.cluster rs.links nc ≡ true → RowsHeld n nc rs light
rows_held n nc rs light weights lights ascend numbers =
    let rows = links_ascending rs.starts n rs.cluster rs.links ascend in
    record {
      started = rows.started;
      rising = rows.rise.rising;
      inside = rows.rise.inside;
      each = record { clusters = rows.linked; weights = weights; below = (numbers_below_at rs.cluster rs.links nc numbers).1; lights = lights };
    }

-- a room whose tests passed is accepted
pub answered_accepted : (r : Room) (limit : ℕ) (irr rad s : List Float) → Answered r limit (length irr) (length rad) (length s) → Accepted r (light_of irr rad) s
unfolding numbers_fit
answered_accepted r limit irr rad s a =
    let cs = r.clusters in
    let rs = r.rows in
    let column = surfels_held r (length irr) (length rad) a.surfels_passed in
    let lent = clusters_lent cs (length s) a.clusters_passed in
    let number =
    conj_each
    (links_ascend rs.starts r.n rs.cluster rs.links
    ∷ numbers_below rs.cluster rs.links cs.nc
    ∷ ranges_contiguous cs.first cs.count cs.nc cs.members
    ∷ numbers_below cs.member cs.members r.n
    ∷ [])
    a.numbers_passed
    in
    record {
      albedos = column.albedos;
      directs = column.directs;
      irrs = column.irrs;
      clusters_held = clusters_held r.n cs r.area rad lent.0 column.areas column.rads number.1.1.0 number.1.1.1.0;
      rows_held = rows_held r.n cs.nc rs s (weights_lent r.n rs a.rows_passed) lent.1 number.0 number.1.0;
    }

-- and so is one that is not refused
pub accepted : (r : Room) (limit : ℕ) (irr rad s : List Float) → check r limit (length irr) (length rad) (length s) ≡ Ok tt → Accepted r (light_of irr rad) s
accepted r limit irr rad s e = answered_accepted r limit irr rad s (not_refused r limit (length irr) (length rad) (length s) e)

-- of the list for the clusters' light, rows ask only the length
pub rows_held_also : {n nc : ℕ} {rs : Rows} {s : List Float} (t : List Float) → length t ≡ length s → RowsHeld n nc rs s → RowsHeld n nc rs t
rows_held_also t e h = record {
  started = h.started;
  rising = h.rising;
  inside = h.inside;
  each = record { clusters = h.each.clusters; weights = h.each.weights; below = h.each.below; lights = omega (arith, e, h.each.lights) };
}

-- of its light and of that list, a room that is accepted asks only the lengths
pub accepted_also : {r : Room} {l : Light} {s : List Float} (m : Light) (t : List Float)
    → length m.irr ≡ length l.irr → length m.rad ≡ length l.rad → length t ≡ length s → Accepted r l s → Accepted r m t
accepted_also m t p q e h =
    let cs = h.clusters_held in
    record {
      albedos = h.albedos;
      directs = h.directs;
      irrs = omega (arith, p, h.irrs);
      clusters_held = record {
        areas = cs.areas;
        firsts = cs.firsts;
        counts = cs.counts;
        inside = cs.inside;
        each = record { held = cs.each.held; below = cs.each.below; areas = cs.each.areas; rads = omega (arith, q, cs.each.rads) };
      };
      rows_held = rows_held_also t e h.rows_held;
    }
