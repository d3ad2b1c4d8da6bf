-- What reading a room file answers and leaves, refused or not: document 01, 'The room file and `roomlight`' and 'Refused calls'. Definitions only.
use Rattle.std.specs.Prelude.{Bool, List, [], ◌∷◌, ℕ, leb, ltb, length, Result, Ok, Err}
use Rattle.accept.specs.Every.{conj}
use Rattle.accept.specs.Limits.{max_file}
use Rattle.accept.specs.Refusal.{outcome}
use Rattle.accept.specs.declared.refusal.Refusal.{Refusal}
use Rattle.accept.specs.Tables.{column}
use Rattle.file.specs.declared.Counts.{Counts}
use Rattle.file.specs.Blocks.{counts_in, points, normals, albedos, areas, directs, cluster_areas, firsts, member_counts, members}
use Rattle.file.specs.Blocks.{row_starts, link_clusters, link_weights, probe_points, probe_normals}
use Rattle.file.specs.Columns.{numbers_over, floats_over}
use Rattle.file.specs.Rooms.{box_of_file}
use Rattle.file.specs.Checks.{check}
use Rattle.room.specs.declared.Head.{Head}
use Rattle.room.specs.Lent.{SurfelColumns, ClusterColumns, RowColumns, ProbeColumns, Columns}

-- 4: each column holds its entries; row starts are one more than surfels
unfoldable pub surfels_hold : Counts → SurfelColumns → Bool
surfels_hold c l =
    let n = c.surfels in
    conj (column l.p n ∷ column l.normals n ∷ column l.albedo n ∷ leb n (length l.area) ∷ column l.direct n ∷ [])

unfoldable pub clusters_hold : Counts → ClusterColumns → Bool
clusters_hold c l =
    let nc = c.clusters in
    conj (leb nc (length l.area) ∷ leb nc (length l.first) ∷ leb nc (length l.count) ∷ leb c.members (length l.member) ∷ [])

unfoldable pub rows_hold : Counts → RowColumns → Bool
rows_hold c l = conj (ltb c.surfels (length l.starts) ∷ leb c.links (length l.cluster) ∷ leb c.links (length l.weight) ∷ [])

unfoldable pub probes_hold : Counts → ProbeColumns → Bool
probes_hold c l = conj (column l.p c.probes ∷ column l.normals c.probes ∷ [])

unfoldable pub columns_hold : Counts → Columns → Bool
columns_hold c l = conj (surfels_hold c l.surfels ∷ clusters_hold c l.clusters ∷ rows_hold c l.rows ∷ probes_hold c l.probes ∷ [])

-- the columns with the file's entries in front
abbrev pub surfels_over : List ℕ → SurfelColumns → SurfelColumns
surfels_over b l =
    let c = counts_in b in
    record {
      p = floats_over b (points c) l.p;
      normals = floats_over b (normals c) l.normals;
      albedo = floats_over b (albedos c) l.albedo;
      area = floats_over b (areas c) l.area;
      direct = floats_over b (directs c) l.direct;
    }

abbrev pub clusters_over : List ℕ → ClusterColumns → ClusterColumns
clusters_over b l =
    let c = counts_in b in
    record {
      area = floats_over b (cluster_areas c) l.area;
      first = numbers_over b (firsts c) l.first;
      count = numbers_over b (member_counts c) l.count;
      member = numbers_over b (members c) l.member;
    }

abbrev pub rows_over : List ℕ → RowColumns → RowColumns
rows_over b l =
    let c = counts_in b in
    record {
      starts = numbers_over b (row_starts c) l.starts;
      cluster = numbers_over b (link_clusters c) l.cluster;
      weight = floats_over b (link_weights c) l.weight;
    }

abbrev pub probes_over : List ℕ → ProbeColumns → ProbeColumns
probes_over b l =
    let c = counts_in b in
    record { p = floats_over b (probe_points c) l.p; normals = floats_over b (probe_normals c) l.normals }

unfoldable pub columns_over : List ℕ → Columns → Columns
columns_over b l =
    record {
      surfels = surfels_over b l.surfels;
      clusters = clusters_over b l.clusters;
      rows = rows_over b l.rows;
      probes = probes_over b l.probes;
    }

-- the counts and the limit, and the box, the side of a cell and the radius
abbrev pub head_of : List ℕ → Head
head_of b = record { counts = counts_in b; bounds = box_of_file b }

-- a file read: the answer and the columns
unfoldable pub room_read_answer : List ℕ → Columns → Result Head Refusal × Columns
room_read_answer b l =
    outcome (λ refusal. (Err refusal, l)) (Ok (head_of b), columns_over b l) (check b max_file (columns_hold (counts_in b) l))
