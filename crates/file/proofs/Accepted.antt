-- What a file that is not refused says of itself: its tests passed, it has its columns, and a solve takes its room. Assumes nothing.
use mathlib.Core.Bool.{Bool, true, and-eq-true_iff}
use mathlib.Core.List.{List, [], ◌∷◌}
use mathlib.Core.Path.{◌≡◌}
use Prim.Native.Nat.{ℕ, ◌*◌, ◌≤◌}
use native.Mathlib.Omega.{arith}
use lib.Dec.{leb, eqb}
use lib.ListN.{length}
use borrow.Author.Tests.{le-leb, leb-true, eqb-true}
use Rattle.std.specs.Prelude.{Ok}
use Rattle.accept.specs.Limits.{min_file, max_file, max_surfels, max_clusters, max_links, max_bounces}
use Rattle.accept.specs.Ranges.{coordinates}
use Rattle.accept.specs.Tables.{at_most, holds}
use Rattle.accept.proofs.Bounded.{le_holds}
use Rattle.accept.proofs.Every.{conj_each}
use Rattle.accept.proofs.Refused.{none_refused}
use Rattle.transfer.specs.Checks.{counts_within, surfels_hold, clusters_hold, rows_hold, floats_fit, numbers_fit}
use Rattle.std.specs.Prelude.{Ok}
use Rattle.transfer.specs.Checks.{check as solve_check}
use Rattle.transfer.proofs.Acceptance.{all_passed}
use Rattle.file.specs.declared.Column.{Column}
use Rattle.file.specs.declared.Counts.{Counts}
use Rattle.file.specs.Words.{words, word_in}
use Rattle.file.specs.Blocks.{counts_in, surfels_from, clusters_from, members_from, starts_from, links_from, probes_from, end_of}
use Rattle.file.specs.Blocks.{points, normals, albedos, areas, directs, cluster_areas, firsts, member_counts, members}
use Rattle.file.specs.Blocks.{row_starts, link_clusters, link_weights, probe_points, probe_normals}
use Rattle.file.specs.Columns.{floats_of, inside}
use Rattle.file.specs.Rooms.{clusters_of_file, rows_of_file, room_of_file, points_of_file, normals_of_file, probes_of_file, box_of_file}
use Rattle.file.specs.Checks.{formed, few_enough, boxed, floats_pass, numbers_pass, check}
use Rattle.file.specs.Needs.{Ends}
use Rattle.file.proofs.Entries.{floats_length}
use Rattle.file.proofs.Listed.{numbers_held, numbers_past}
use Rattle.file.proofs.Laid.{Standing, stands_tested, points_stand, normals_stand, albedos_stand, areas_stand, directs_stand}
use Rattle.file.proofs.Laid.{cluster_areas_stand, firsts_stand, member_counts_stand, members_stand, row_starts_stand}
use Rattle.file.proofs.Laid.{link_clusters_stand, link_weights_stand, probe_points_stand, probe_normals_stand}

-- each test of a file that is not refused passed
pub record Passed (b : List ℕ) (most : ℕ) (lent : Bool) : Type 0 where
  pub formed_passed : formed b most ≡ true
  pub few_passed : few_enough (counts_in b) ≡ true
  pub box_passed : boxed (box_of_file b) ≡ true
  pub lent_passed : lent ≡ true
  pub floats_passed : floats_pass b ≡ true
  pub numbers_passed : numbers_pass b ≡ true

-- that nothing refuses it says so
pub passed : (b : List ℕ) (most : ℕ) (lent : Bool) → check b most lent ≡ Ok tt → Passed b most lent
unfolding check
passed b most lent e =
    let t = none_refused _ e in
    record {
      formed_passed = t.0;
      few_passed = t.1.0;
      box_passed = t.1.1.0;
      lent_passed = t.1.1.1.0;
      floats_passed = t.1.1.1.1.0;
      numbers_passed = t.1.1.1.1.1.0;
    }

-- a file that is formed has the length that its counts give, and is no longer than it may be
pub file_ends : (b : List ℕ) (most : ℕ) → formed b most ≡ true → (length b ≡ 4 * end_of (counts_in b)) × (length b ≤ most)
unfolding formed
file_ends b most e =
    let c = counts_in b in
    let t =
    conj_each
    (leb min_file (length b)
    ∷ leb (length b) most
    ∷ eqb (word_in b 0) 1
    ∷ eqb (word_in b 7) (4 * surfels_from)
    ∷ eqb (word_in b 8) (4 * clusters_from c)
    ∷ eqb (word_in b 9) (4 * members_from c)
    ∷ eqb (word_in b 10) (4 * starts_from c)
    ∷ eqb (word_in b 11) (4 * links_from c)
    ∷ eqb (word_in b 12) (4 * probes_from c)
    ∷ eqb (word_in b 13) (4 * end_of c)
    ∷ eqb (length b) (4 * end_of c)
    ∷ eqb (word_in b 14) 0
    ∷ eqb (word_in b 15) 0
    ∷ [])
    e
    in
    (eqb-true (length b) (4 * end_of c) t.1.1.1.1.1.1.1.1.1.1.0, leb-true (length b) most t.1.0)

-- counts within their limits do not take many words
few_end : (c : Counts) → few_enough c ≡ true → end_of c ≤ 1099511627776
unfolding few_enough counts_within
few_end c e =
    let both = (and-eq-true_iff (counts_within c.surfels c.clusters c.members c.links c.limit) (at_most c.probes max_surfels)).0 e in
    let t =
    conj_each
    (at_most c.surfels max_surfels
    ∷ at_most c.clusters max_clusters
    ∷ at_most c.members max_surfels
    ∷ at_most c.links max_links
    ∷ at_most c.limit max_bounces
    ∷ [])
    both.0
    in
    omega (
      arith,
      leb-true c.surfels max_surfels t.0,
      leb-true c.clusters max_clusters t.1.0,
      leb-true c.members max_surfels t.1.1.0,
      leb-true c.links max_links t.1.1.1.0,
      leb-true c.probes max_surfels both.1,
    )

-- and it has the words that its counts say, where they are not too many
formed_ends : (b : List ℕ) (most : ℕ) → end_of (counts_in b) ≤ 1099511627776 → formed b most ≡ true → Ends b (counts_in b)
formed_ends b most h f =
    let k : words b ≡ end_of (counts_in b) = omega (arith, (file_ends b most f).0) in
    record { few = omega (arith, k, h); whole = omega (arith, k) }

-- as where the first two tests passed
pub checked_ends : (b : List ℕ) (most : ℕ) → formed b most ≡ true → few_enough (counts_in b) ≡ true → Ends b (counts_in b)
checked_ends b most f e = formed_ends b most (few_end (counts_in b) e) f

-- ---- the columns of a file that is formed, and no longer than a room file may be

module _ (b : List ℕ) (most : ℕ) (e : formed b most ≡ true) (h : most ≤ max_file) where
  pub formed_few : length b ≤ max_file
  formed_few = omega (arith, (file_ends b most e).1)

  pub ends : Ends b (counts_in b)
  ends = formed_ends b most (omega (arith, (file_ends b most e).0, formed_few)) e

  tested : {col : Column} → Standing b col → inside b col ≡ true
  tested k = stands_tested formed_few k

  pub has_points : inside b (points (counts_in b)) ≡ true
  has_points = tested (points_stand ends)

  pub has_normals : inside b (normals (counts_in b)) ≡ true
  has_normals = tested (normals_stand ends)

  pub has_albedos : inside b (albedos (counts_in b)) ≡ true
  has_albedos = tested (albedos_stand ends)

  pub has_areas : inside b (areas (counts_in b)) ≡ true
  has_areas = tested (areas_stand ends)

  pub has_directs : inside b (directs (counts_in b)) ≡ true
  has_directs = tested (directs_stand ends)

  pub has_cluster_areas : inside b (cluster_areas (counts_in b)) ≡ true
  has_cluster_areas = tested (cluster_areas_stand ends)

  pub has_firsts : inside b (firsts (counts_in b)) ≡ true
  has_firsts = tested (firsts_stand ends)

  pub has_member_counts : inside b (member_counts (counts_in b)) ≡ true
  has_member_counts = tested (member_counts_stand ends)

  pub has_members : inside b (members (counts_in b)) ≡ true
  has_members = tested (members_stand ends)

  pub has_row_starts : inside b (row_starts (counts_in b)) ≡ true
  has_row_starts = tested (row_starts_stand ends)

  pub has_link_clusters : inside b (link_clusters (counts_in b)) ≡ true
  has_link_clusters = tested (link_clusters_stand ends)

  pub has_link_weights : inside b (link_weights (counts_in b)) ≡ true
  has_link_weights = tested (link_weights_stand ends)

  pub has_probe_points : inside b (probe_points (counts_in b)) ≡ true
  has_probe_points = tested (probe_points_stand ends)

  pub has_probe_normals : inside b (probe_normals (counts_in b)) ≡ true
  has_probe_normals = tested (probe_normals_stand ends)

-- ---- the room, which a solve takes

-- the tests that a column of floats has n entries, or n floats
floats_held : (b : List ℕ) (col : Column) (n each : ℕ) → n * each ≤ col.width * col.count → holds (length (floats_of b col)) n each ≡ true
floats_held b col n each h = le_holds (length (floats_of b col)) n each (omega (arith, floats_length b col))

floats_enough : (b : List ℕ) (col : Column) (n : ℕ) → n ≤ col.width * col.count → leb n (length (floats_of b col)) ≡ true
floats_enough b col n h = le-leb n (length (floats_of b col)) (omega (arith, floats_length b col))

module _ (b : List ℕ) where
  abbrev c : Counts
  c = counts_in b

  counts_passed : few_enough c ≡ true → counts_within c.surfels c.clusters c.members c.links c.limit ≡ true
  unfolding few_enough
  counts_passed e =
      ((and-eq-true_iff (counts_within c.surfels c.clusters c.members c.links c.limit) (at_most c.probes max_surfels)).0 e).0

  surfels_passed : surfels_hold (room_of_file b) (3 * c.surfels) (3 * c.surfels) ≡ true
  unfolding surfels_hold room_of_file
  surfels_passed =
      rw (
        floats_held b (albedos c) c.surfels 3 (omega arith),
        floats_enough b (areas c) c.surfels (omega arith),
        floats_held b (directs c) c.surfels 3 (omega arith),
        le_holds (3 * c.surfels) c.surfels 3 (omega arith),
      )

  clusters_passed : clusters_hold (clusters_of_file b) (3 * c.clusters) ≡ true
  unfolding clusters_hold clusters_of_file
  clusters_passed =
      rw (
        floats_enough b (cluster_areas c) c.clusters (omega arith),
        numbers_held b (firsts c) c.clusters (omega arith),
        numbers_held b (member_counts c) c.clusters (omega arith),
        numbers_held b (members c) c.members (omega arith),
        le_holds (3 * c.clusters) c.clusters 3 (omega arith),
      )

  rows_passed : rows_hold c.surfels (rows_of_file b) ≡ true
  unfolding rows_hold rows_of_file
  rows_passed =
      rw (
        numbers_past b (row_starts c) c.surfels (omega arith),
        numbers_held b (link_clusters c) c.links (omega arith),
        floats_enough b (link_weights c) c.links (omega arith),
      )

  floats_fit_lem : floats_pass b ≡ true → floats_fit (room_of_file b) ≡ true
  unfolding floats_pass
  floats_fit_lem e =
      let r = room_of_file b in
      let q = probes_of_file b in
      (conj_each
      (coordinates (points_of_file b) r.n
      ∷ coordinates (normals_of_file b) r.n
      ∷ floats_fit r
      ∷ coordinates q.p q.count
      ∷ coordinates q.normals q.count
      ∷ [])
      e
      ).1.1.0

  numbers_fit_lem : numbers_pass b ≡ true → numbers_fit (room_of_file b) ≡ true
  unfolding numbers_pass
  numbers_fit_lem e = e

-- a solve of its room is not refused
pub solve_accepts : (b : List ℕ) (most : ℕ) (lent : Bool) → check b most lent ≡ Ok tt
    → let c = counts_in b in solve_check (room_of_file b) c.limit (3 * c.surfels) (3 * c.surfels) (3 * c.clusters) ≡ Ok tt
unfolding room_of_file clusters_of_file rows_of_file
solve_accepts b most lent e =
    let p = passed b most lent e in
    let c = counts_in b in
    all_passed (room_of_file b) c.limit (3 * c.surfels) (3 * c.surfels) (3 * c.clusters) (record {
      counts_passed = counts_passed b p.few_passed;
      surfels_passed = surfels_passed b;
      clusters_passed = clusters_passed b;
      rows_passed = rows_passed b;
      floats_passed = floats_fit_lem b p.floats_passed;
      numbers_passed = numbers_fit_lem b p.numbers_passed;
    })
