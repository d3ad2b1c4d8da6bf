-- What rows are made from, as it is lent: document 01, 'What changes shape' (lent slices). Definitions only.
use Rattle.std.specs.Prelude.{List, ℕ, Float}
use Rattle.float.specs.Column.{float_at}
use Rattle.vector.specs.declared.Vec3.{Vec3}
use Rattle.vector.specs.Flat.{Slice, vec_at}
use Rattle.vector.specs.Vector.{minus, length_of}
use Rattle.tables.specs.Tables.{Scene}
use Rattle.clusters.specs.declared.Cluster.{Cluster}
use Rattle.links.specs.declared.Receiver.{Receiver}

-- n surfels: their places and normals
pub record Surfels : Type 0 where
  pub n : ℕ
  pub p : List Float
  pub normals : List Float

-- nc clusters: their centres, normals, areas and radii
pub record Emitters : Type 0 where
  pub nc : ℕ
  pub p : List Float
  pub n : List Float
  pub area : List Float
  pub radius : List Float

-- the scene, the diagonal of its bounds, n surfels by place and normal, and the clusters
pub record Setting : Type 0 where
  pub scene : Scene
  pub diag : Float
  pub n : ℕ
  pub p : List Float
  pub normals : List Float
  pub emitters : Emitters

-- the diagonal of the bounds from lo to hi
unfoldable pub diagonal : Vec3 → Vec3 → Float
diagonal lo hi = length_of (minus hi lo)

-- surfel i and cluster c
abbrev pub receiver_at : List Float → List Float → ℕ → Receiver
receiver_at p normals i = record { p = vec_at p i; n = vec_at normals i }

abbrev pub cluster_at : Emitters → ℕ → Cluster
cluster_at e c = record { p = vec_at e.p c; n = vec_at e.n c; area = float_at e.area c; radius = float_at e.radius c }

-- the surfels of these lists, and the clusters
abbrev pub surfels_of : ℕ → List Float → List Float → Surfels
surfels_of n p normals = record { n = n; p = p; normals = normals }

abbrev pub emitters_of : ℕ → List Float → List Float → List Float → List Float → Emitters
emitters_of nc p n area radius = record { nc = nc; p = p; n = n; area = area; radius = radius }

-- those that a function was lent
abbrev pub emitters_in : ℕ → Slice Float → Slice Float → Slice Float → Slice Float → Emitters
emitters_in nc p n area radius = emitters_of nc p.entry.now n.entry.now area.entry.now radius.entry.now

-- the setting of these numbers and lists, that of these surfels, and the one that a function was lent
abbrev pub setting_of : Scene → Float → ℕ → List Float → List Float → Emitters → Setting
setting_of scene diag n p normals emitters = record { scene = scene; diag = diag; n = n; p = p; normals = normals; emitters = emitters }

abbrev pub setting_with : Scene → Float → Surfels → Emitters → Setting
setting_with scene diag s emitters = setting_of scene diag s.n s.p s.normals emitters

abbrev pub setting_in : Scene → Float → ℕ → Slice Float → Slice Float → Emitters → Setting
setting_in scene diag n p normals emitters = setting_of scene diag n p.entry.now normals.entry.now emitters
