-- What reading a file answers and leaves, from what the functions beneath answer: a call that is not refused reads columns that the file has in full and that were lent long enough. Assumes nothing.
use mathlib.Core.Bool.{true}
use mathlib.Core.List.{List, [], ◌∷◌}
use mathlib.Core.Path.{◌≡◌, sym, ◌∙◌}
use Prim.Native.Nat.{ℕ, ◌+◌, ◌≤◌}
use native.Mathlib.Omega.{arith}
use borrow.Author.Tests.{leb-true, ltb-true, le-leb}
use lib.Dec.{leb, ltb}
use lib.ListN.{length}
use Rattle.accept.specs.Limits.{max_file}
use Rattle.accept.specs.Tables.{column, holds}
use Rattle.accept.proofs.Bounded.{le_holds}
use Rattle.accept.proofs.Every.{conj_each}
use Rattle.file.specs.declared.Counts.{Counts}
use Rattle.file.specs.Blocks.{counts_in, points, normals, albedos, areas, directs, cluster_areas, firsts, member_counts, members}
use Rattle.file.specs.Blocks.{row_starts, link_clusters, link_weights, probe_points, probe_normals}
use Rattle.file.specs.Checks.{check, formed}
use Rattle.file.specs.Columns.{numbers_read, floats_read}
use Rattle.file.proofs.Accepted.{passed, has_points, has_normals, has_albedos, has_areas, has_directs, has_cluster_areas, has_firsts, has_member_counts}
use Rattle.file.proofs.Accepted.{has_members, has_row_starts, has_link_clusters, has_link_weights, has_probe_points, has_probe_normals}
use Rattle.file.proofs.Entries.{read_floats, read_numbers}
use Rattle.accept.specs.declared.refusal.Refusal.{Refusal}
use Rattle.std.specs.Prelude.{Ok, Err}
use Rattle.room.specs.Answers.{surfels_hold, clusters_hold, rows_hold, probes_hold, columns_hold}
use Rattle.room.specs.Answers.{surfels_over, clusters_over, rows_over, probes_over, columns_over, head_of, room_read_answer}
use Rattle.room.specs.Lent.{SurfelColumns, ClusterColumns, RowColumns, ProbeColumns, Columns}

-- the columns k of each block as the functions that read it leave them, from those lent, l
abbrev pub SurfelsRead : List ℕ → Counts → SurfelColumns → SurfelColumns → Type 0
SurfelsRead b c l k =
    (k.p ≡ floats_read b (points c) l.p)
    × ((k.normals ≡ floats_read b (normals c) l.normals)
    × ((k.albedo ≡ floats_read b (albedos c) l.albedo)
    × ((k.area ≡ floats_read b (areas c) l.area)
    × (k.direct ≡ floats_read b (directs c) l.direct))))

abbrev pub ClustersRead : List ℕ → Counts → ClusterColumns → ClusterColumns → Type 0
ClustersRead b c l k =
    (k.area ≡ floats_read b (cluster_areas c) l.area)
    × ((k.first ≡ numbers_read b (firsts c) l.first)
    × ((k.count ≡ numbers_read b (member_counts c) l.count)
    × (k.member ≡ numbers_read b (members c) l.member)))

abbrev pub RowsRead : List ℕ → Counts → RowColumns → RowColumns → Type 0
RowsRead b c l k =
    (k.starts ≡ numbers_read b (row_starts c) l.starts)
    × ((k.cluster ≡ numbers_read b (link_clusters c) l.cluster)
    × (k.weight ≡ floats_read b (link_weights c) l.weight))

abbrev pub ProbesRead : List ℕ → Counts → ProbeColumns → ProbeColumns → Type 0
ProbesRead b c l k = (k.p ≡ floats_read b (probe_points c) l.p) × (k.normals ≡ floats_read b (probe_normals c) l.normals)

-- a list that is long enough holds entries of one place each
single : (len n : ℕ) → leb n len ≡ true → holds len n 1 ≡ true
single len n h = le_holds len n 1 (omega (arith, leb-true n len h))

-- one that is longer holds one more
one_more : (n len : ℕ) → ltb n len ≡ true → leb (n + 1) len ≡ true
one_more n len h = le-leb (n + 1) len (omega (arith, ltb-true n len h))

-- blocks are equal where their columns are
surfels_same : {k l : SurfelColumns} → k.p ≡ l.p → k.normals ≡ l.normals → k.albedo ≡ l.albedo → k.area ≡ l.area → k.direct ≡ l.direct → k ≡ l
surfels_same p n o a d i = record { p = p i; normals = n i; albedo = o i; area = a i; direct = d i }

clusters_same : {k l : ClusterColumns} → k.area ≡ l.area → k.first ≡ l.first → k.count ≡ l.count → k.member ≡ l.member → k ≡ l
clusters_same a f n m i = record { area = a i; first = f i; count = n i; member = m i }

rows_same : {k l : RowColumns} → k.starts ≡ l.starts → k.cluster ≡ l.cluster → k.weight ≡ l.weight → k ≡ l
rows_same s c w i = record { starts = s i; cluster = c i; weight = w i }

probes_same : {k l : ProbeColumns} → k.p ≡ l.p → k.normals ≡ l.normals → k ≡ l
probes_same p n i = record { p = p i; normals = n i }

columns_same : {k l : Columns} → k.surfels ≡ l.surfels → k.clusters ≡ l.clusters → k.rows ≡ l.rows → k.probes ≡ l.probes → k ≡ l
columns_same s c r p i = record { surfels = s i; clusters = c i; rows = r i; probes = p i }

-- of a file that is formed, the columns read are its entries over what was lent, where that was long enough
module _ (b : List ℕ) (f : formed b max_file ≡ true) where
  most : max_file ≤ max_file
  most = omega arith

  surfels_over_lem : (l k : SurfelColumns) → surfels_hold (counts_in b) l ≡ true → SurfelsRead b (counts_in b) l k → k ≡ surfels_over b l
  unfolding surfels_hold
  surfels_over_lem l k h e =
      let c = counts_in b in
      let n = c.surfels in
      let t = conj_each (column l.p n ∷ column l.normals n ∷ column l.albedo n ∷ leb n (length l.area) ∷ column l.direct n ∷ []) h in
      surfels_same
      (e.0 ∙ read_floats b (points c) l.p (has_points b max_file f most) t.0)
      (e.1.0 ∙ read_floats b (normals c) l.normals (has_normals b max_file f most) t.1.0)
      (e.1.1.0 ∙ read_floats b (albedos c) l.albedo (has_albedos b max_file f most) t.1.1.0)
      (e.1.1.1.0 ∙ read_floats b (areas c) l.area (has_areas b max_file f most) (single _ _ t.1.1.1.0))
      (e.1.1.1.1 ∙ read_floats b (directs c) l.direct (has_directs b max_file f most) t.1.1.1.1.0)

  clusters_over_lem : (l k : ClusterColumns) → clusters_hold (counts_in b) l ≡ true → ClustersRead b (counts_in b) l k → k ≡ clusters_over b l
  unfolding clusters_hold
  clusters_over_lem l k h e =
      let c = counts_in b in
      let n = c.clusters in
      let t = conj_each (leb n (length l.area) ∷ leb n (length l.first) ∷ leb n (length l.count) ∷ leb c.members (length l.member) ∷ []) h in
      clusters_same
      (e.0 ∙ read_floats b (cluster_areas c) l.area (has_cluster_areas b max_file f most) (single _ _ t.0))
      (e.1.0 ∙ read_numbers b (firsts c) l.first (has_firsts b max_file f most) t.1.0)
      (e.1.1.0 ∙ read_numbers b (member_counts c) l.count (has_member_counts b max_file f most) t.1.1.0)
      (e.1.1.1 ∙ read_numbers b (members c) l.member (has_members b max_file f most) t.1.1.1.0)

  rows_over_lem : (l k : RowColumns) → rows_hold (counts_in b) l ≡ true → RowsRead b (counts_in b) l k → k ≡ rows_over b l
  unfolding rows_hold
  rows_over_lem l k h e =
      let c = counts_in b in
      let t = conj_each (ltb c.surfels (length l.starts) ∷ leb c.links (length l.cluster) ∷ leb c.links (length l.weight) ∷ []) h in
      rows_same
      (e.0 ∙ read_numbers b (row_starts c) l.starts (has_row_starts b max_file f most) (one_more c.surfels (length l.starts) t.0))
      (e.1.0 ∙ read_numbers b (link_clusters c) l.cluster (has_link_clusters b max_file f most) t.1.0)
      (e.1.1 ∙ read_floats b (link_weights c) l.weight (has_link_weights b max_file f most) (single _ _ t.1.1.0))

  probes_over_lem : (l k : ProbeColumns) → probes_hold (counts_in b) l ≡ true → ProbesRead b (counts_in b) l k → k ≡ probes_over b l
  unfolding probes_hold
  probes_over_lem l k h e =
      let c = counts_in b in
      let t = conj_each (column l.p c.probes ∷ column l.normals c.probes ∷ []) h in
      probes_same
      (e.0 ∙ read_floats b (probe_points c) l.p (has_probe_points b max_file f most) t.0)
      (e.1 ∙ read_floats b (probe_normals c) l.normals (has_probe_normals b max_file f most) t.1.0)

  columns_over_lem : (l k : Columns) → columns_hold (counts_in b) l ≡ true
      → SurfelsRead b (counts_in b) l.surfels k.surfels → ClustersRead b (counts_in b) l.clusters k.clusters
      → RowsRead b (counts_in b) l.rows k.rows → ProbesRead b (counts_in b) l.probes k.probes → k ≡ columns_over b l
  unfolding columns_hold columns_over
  columns_over_lem l k h s cs r p =
      let c = counts_in b in
      let t = conj_each (surfels_hold c l.surfels ∷ clusters_hold c l.clusters ∷ rows_hold c l.rows ∷ probes_hold c l.probes ∷ []) h in
      columns_same
      (surfels_over_lem l.surfels k.surfels t.0 s)
      (clusters_over_lem l.clusters k.clusters t.1.0 cs)
      (rows_over_lem l.rows k.rows t.1.1.0 r)
      (probes_over_lem l.probes k.probes t.1.1.1.0 p)

-- the answer, from what refuses the file, if anything does
module _ (b : List ℕ) (l : Columns) where
  -- refused, the columns are as they were
  pub answer_refused : {r : Refusal} → Err r ≡ check b max_file (columns_hold (counts_in b) l) → (Err r, l) ≡ room_read_answer b l
  unfolding room_read_answer
  answer_refused e = rw (← e)

  -- done, they have the file's entries in front
  pub answer_done : (k : Columns) → Ok tt ≡ check b max_file (columns_hold (counts_in b) l)
      → SurfelsRead b (counts_in b) l.surfels k.surfels → ClustersRead b (counts_in b) l.clusters k.clusters
      → RowsRead b (counts_in b) l.rows k.rows → ProbesRead b (counts_in b) l.probes k.probes
      → (Ok (head_of b), k) ≡ room_read_answer b l
  unfolding room_read_answer
  answer_done k e s cs r p =
      let h = passed b max_file (columns_hold (counts_in b) l) (sym e) in
      rw (← e, columns_over_lem b h.formed_passed l k h.lent_passed s cs r p)
