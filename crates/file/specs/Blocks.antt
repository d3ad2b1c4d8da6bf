-- The header and the six blocks of a room file: document 01, 'The room file and `roomlight`'. Places are counted in words. Definitions only.
use Rattle.std.specs.Prelude.{List, ℕ, ◌+◌, ◌*◌}
use Rattle.file.specs.declared.Column.{Column}
use Rattle.file.specs.declared.Counts.{Counts}
use Rattle.file.specs.Words.{word_in}

-- the counts of the header, after the form, and the limit of bounces
abbrev pub counts_in : List ℕ → Counts
counts_in b =
    record {
      surfels = word_in b 1;
      clusters = word_in b 2;
      members = word_in b 3;
      links = word_in b 4;
      probes = word_in b 5;
      limit = word_in b 6;
    }

-- where each block begins, one after the other, with no gaps: the surfels after the header's 16 words
abbrev pub surfels_from : ℕ
surfels_from = 16

-- the clusters after 13 words of each surfel
abbrev pub clusters_from : Counts → ℕ
clusters_from c = surfels_from + 13 * c.surfels

-- the members after three words of each cluster
abbrev pub members_from : Counts → ℕ
members_from c = clusters_from c + 3 * c.clusters

-- the row starts after one word of each member
abbrev pub starts_from : Counts → ℕ
starts_from c = members_from c + c.members

-- the links after the row starts, one more than surfels
abbrev pub links_from : Counts → ℕ
links_from c = starts_from c + (c.surfels + 1)

-- lo, hi, cell, radius and the probes after two words of each link
abbrev pub probes_from : Counts → ℕ
probes_from c = links_from c + 2 * c.links

-- where the file ends: after these eight words, and six of each probe
abbrev pub end_of : Counts → ℕ
end_of c = probes_from c + 8 + 6 * c.probes

-- a column: of each of `count` entries `width` words, those of the first from word `from` on, those of the next `step` words later
abbrev pub column_of : ℕ → ℕ → ℕ → ℕ → Column
column_of from step width count = record { from = from; step = step; width = width; count = count }

-- of a surfel p, n, albedo, area, direct
abbrev pub points : Counts → Column
points c = column_of surfels_from 13 3 c.surfels

abbrev pub normals : Counts → Column
normals c = column_of (surfels_from + 3) 13 3 c.surfels

abbrev pub albedos : Counts → Column
albedos c = column_of (surfels_from + 6) 13 3 c.surfels

abbrev pub areas : Counts → Column
areas c = column_of (surfels_from + 9) 13 1 c.surfels

abbrev pub directs : Counts → Column
directs c = column_of (surfels_from + 10) 13 3 c.surfels

-- of a cluster its area, its first member, how many members it has
abbrev pub cluster_areas : Counts → Column
cluster_areas c = column_of (clusters_from c) 3 1 c.clusters

abbrev pub firsts : Counts → Column
firsts c = column_of (clusters_from c + 1) 3 1 c.clusters

abbrev pub member_counts : Counts → Column
member_counts c = column_of (clusters_from c + 2) 3 1 c.clusters

-- the members, and the row starts
abbrev pub members : Counts → Column
members c = column_of (members_from c) 1 1 c.members

abbrev pub row_starts : Counts → Column
row_starts c = column_of (starts_from c) 1 1 (c.surfels + 1)

-- of a link its cluster and its weight
abbrev pub link_clusters : Counts → Column
link_clusters c = column_of (links_from c) 2 1 c.links

abbrev pub link_weights : Counts → Column
link_weights c = column_of (links_from c + 1) 2 1 c.links

-- of a probe p, n
abbrev pub probe_points : Counts → Column
probe_points c = column_of (probes_from c + 8) 6 3 c.probes

abbrev pub probe_normals : Counts → Column
probe_normals c = column_of (probes_from c + 11) 6 3 c.probes
