-- The columns that a room file is read into: document 01, 'The room file and `roomlight`' and 'What changes shape' (lent slices). Definitions only.
use Rattle.std.specs.Prelude.{List, ℕ, Float}
use Rattle.vector.specs.Flat.{MutSlice}

-- of the surfels
pub record SurfelColumns : Type 0 where
  pub p : List Float
  pub normals : List Float
  pub albedo : List Float
  pub area : List Float
  pub direct : List Float

-- of the clusters and their members
pub record ClusterColumns : Type 0 where
  pub area : List Float
  pub first : List ℕ
  pub count : List ℕ
  pub member : List ℕ

-- of the rows
pub record RowColumns : Type 0 where
  pub starts : List ℕ
  pub cluster : List ℕ
  pub weight : List Float

-- of the probes
pub record ProbeColumns : Type 0 where
  pub p : List Float
  pub normals : List Float

-- all of them
pub record Columns : Type 0 where
  pub surfels : SurfelColumns
  pub clusters : ClusterColumns
  pub rows : RowColumns
  pub probes : ProbeColumns

-- the columns of these lists
abbrev pub columns_of : List Float → List Float → List Float → List Float → List Float → List Float → List ℕ → List ℕ → List ℕ → List ℕ → List ℕ → List Float → List Float → List Float → Columns
columns_of p normals albedo area direct cluster_area first count member starts link_cluster link_weight probe_p probe_normals =
    record {
      surfels = record { p = p; normals = normals; albedo = albedo; area = area; direct = direct };
      clusters = record { area = cluster_area; first = first; count = count; member = member };
      rows = record { starts = starts; cluster = link_cluster; weight = link_weight };
      probes = record { p = probe_p; normals = probe_normals };
    }

-- the columns that a function was lent, and as it leaves them
abbrev pub columns_in : MutSlice Float → MutSlice Float → MutSlice Float → MutSlice Float → MutSlice Float → MutSlice Float → MutSlice ℕ → MutSlice ℕ → MutSlice ℕ → MutSlice ℕ → MutSlice ℕ → MutSlice Float → MutSlice Float → MutSlice Float → Columns
columns_in p normals albedo area direct cluster_area first count member starts link_cluster link_weight probe_p probe_normals =
    columns_of p.entry.now normals.entry.now albedo.entry.now area.entry.now direct.entry.now cluster_area.entry.now
    first.entry.now count.entry.now member.entry.now starts.entry.now link_cluster.entry.now link_weight.entry.now
    probe_p.entry.now probe_normals.entry.now

abbrev pub columns_out : MutSlice Float → MutSlice Float → MutSlice Float → MutSlice Float → MutSlice Float → MutSlice Float → MutSlice ℕ → MutSlice ℕ → MutSlice ℕ → MutSlice ℕ → MutSlice ℕ → MutSlice Float → MutSlice Float → MutSlice Float → Columns
columns_out p normals albedo area direct cluster_area first count member starts link_cluster link_weight probe_p probe_normals =
    columns_of p.exit.now normals.exit.now albedo.exit.now area.exit.now direct.exit.now cluster_area.exit.now
    first.exit.now count.exit.now member.exit.now starts.exit.now link_cluster.exit.now link_weight.exit.now
    probe_p.exit.now probe_normals.exit.now
