-- A room as a solve is handed it: document 01, 'The solve' and 'What changes shape' (lent slices). Definitions only.
use Rattle.std.specs.Prelude.{List, ℕ, Float}
use Rattle.vector.specs.Flat.{Slice, MutSlice}

-- nc clusters: their areas; of each the first of its members, and how many they are; and of each member, of so many, its surfel
pub record Clusters : Type 0 where
  pub nc : ℕ
  pub members : ℕ
  pub area : List Float
  pub first : List ℕ
  pub count : List ℕ
  pub member : List ℕ

-- rows of links, one row a surfel: where each row begins, and last where the last ends; of each link, of so many, its cluster and its weight
pub record Rows : Type 0 where
  pub links : ℕ
  pub starts : List ℕ
  pub cluster : List ℕ
  pub weight : List Float

-- what a solve reads and never writes: of n surfels the albedo, the area and the direct light, the clusters and the rows
pub record Room : Type 0 where
  pub n : ℕ
  pub albedo : List Float
  pub area : List Float
  pub direct : List Float
  pub clusters : Clusters
  pub rows : Rows

-- what it writes of the surfels: irr, the irradiance after at least one bounce, and rad, the light that they give off
pub record Light : Type 0 where
  pub irr : List Float
  pub rad : List Float

-- clusters, rows and light of these lists
abbrev pub clusters_of : ℕ → ℕ → List Float → List ℕ → List ℕ → List ℕ → Clusters
clusters_of nc members area first count member = record { nc = nc; members = members; area = area; first = first; count = count; member = member }

abbrev pub rows_of : ℕ → List ℕ → List ℕ → List Float → Rows
rows_of links starts cluster weight = record { links = links; starts = starts; cluster = cluster; weight = weight }

abbrev pub room_of : ℕ → List Float → List Float → List Float → Clusters → Rows → Room
room_of n albedo area direct clusters rows = record { n = n; albedo = albedo; area = area; direct = direct; clusters = clusters; rows = rows }

abbrev pub light_of : List Float → List Float → Light
light_of irr rad = record { irr = irr; rad = rad }

-- clusters, rows and a room that a function was lent
abbrev pub clusters_in : ℕ → ℕ → Slice Float → Slice ℕ → Slice ℕ → Slice ℕ → Clusters
clusters_in nc members area first count member = clusters_of nc members area.entry.now first.entry.now count.entry.now member.entry.now

abbrev pub rows_in : ℕ → Slice ℕ → Slice ℕ → Slice Float → Rows
rows_in links starts cluster weight = rows_of links starts.entry.now cluster.entry.now weight.entry.now

abbrev pub room_in : ℕ → ℕ → ℕ → ℕ → Slice Float → Slice Float → Slice Float → Slice Float → Slice ℕ → Slice ℕ → Slice ℕ → Slice ℕ → Slice ℕ → Slice Float → Room
room_in n nc members links albedo area direct cluster_area first count member starts link_cluster link_weight =
    room_of n albedo.entry.now area.entry.now direct.entry.now (clusters_in nc members cluster_area first count member)
    (rows_in links starts link_cluster link_weight)

-- the light that a function was lent, and the light that it leaves
abbrev pub light_in : MutSlice Float → MutSlice Float → Light
light_in irr rad = light_of irr.entry.now rad.entry.now

abbrev pub light_out : MutSlice Float → MutSlice Float → Light
light_out irr rad = light_of irr.exit.now rad.exit.now
