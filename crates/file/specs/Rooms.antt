-- The room that a file holds, each column a list: document 01, 'The room file and `roomlight`'. Definitions only.
use Rattle.std.specs.Prelude.{List, ℕ, ◌+◌, Float}
use Rattle.transfer.specs.Room.{Clusters, Rows, Room, clusters_of, rows_of, room_of}
use Rattle.surfel.specs.Checks.{Probes}
use Rattle.file.specs.declared.ProbeBox.{ProbeBox}
use Rattle.file.specs.Words.{float_in, vec_in}
use Rattle.file.specs.Columns.{numbers_of, floats_of}
use Rattle.file.specs.Blocks.{counts_in, probes_from, points, normals, albedos, areas, directs, cluster_areas, firsts, member_counts, members}
use Rattle.file.specs.Blocks.{row_starts, link_clusters, link_weights, probe_points, probe_normals}

-- the clusters, the rows, and the room that a solve is lent
unfoldable pub clusters_of_file : List ℕ → Clusters
clusters_of_file b =
    let c = counts_in b in
    clusters_of c.clusters c.members (floats_of b (cluster_areas c)) (numbers_of b (firsts c)) (numbers_of b (member_counts c)) (numbers_of b (members c))

unfoldable pub rows_of_file : List ℕ → Rows
rows_of_file b =
    let c = counts_in b in
    rows_of c.links (numbers_of b (row_starts c)) (numbers_of b (link_clusters c)) (floats_of b (link_weights c))

unfoldable pub room_of_file : List ℕ → Room
room_of_file b =
    let c = counts_in b in
    room_of c.surfels (floats_of b (albedos c)) (floats_of b (areas c)) (floats_of b (directs c)) (clusters_of_file b) (rows_of_file b)

-- the surfels' points and normals
abbrev pub points_of_file : List ℕ → List Float
points_of_file b = floats_of b (points (counts_in b))

abbrev pub normals_of_file : List ℕ → List Float
normals_of_file b = floats_of b (normals (counts_in b))

-- lo, hi, cell and radius
abbrev pub box_from : List ℕ → ℕ → ProbeBox
box_from b k = record { lo = vec_in b k; hi = vec_in b (k + 3); cell = float_in b (k + 6); radius = float_in b (k + 7) }

abbrev pub box_of_file : List ℕ → ProbeBox
box_of_file b = box_from b (probes_from (counts_in b))

-- the probes
unfoldable pub probes_of_file : List ℕ → Probes
probes_of_file b =
    let c = counts_in b in
    record { count = c.probes; p = floats_of b (probe_points c); normals = floats_of b (probe_normals c); radius = (box_of_file b).radius }
