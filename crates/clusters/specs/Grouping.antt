-- The clusters of surfels: document 01, 'The rows' (key ascending, members ascending; a cluster whose area is at most 1e-12 is dropped), in the order of the Rust's float steps.
-- Definitions only.
use Rattle.std.specs.Prelude.{Bool, cond, List, [], ◌∷◌, ℕ, Float, length, get_or}
use Rattle.std.specs.Float.{binary32}
use Rattle.std.specs.Float.Ieee.{of_bits, lt, le}
use Rattle.std.proofs.lemmas.List.Edits.{sets}
use Rattle.float.specs.Arithmetic.{◌+f◌, ◌/f◌, 0f, 1f}
use Rattle.float.specs.Column.{float_at}
use Rattle.float.specs.Root.{square_root}
use Rattle.vector.specs.declared.Vec3.{Vec3}
use Rattle.vector.specs.Flat.{vec_at, rows, written, filled}
use Rattle.vector.specs.Fold.{fold}
use Rattle.vector.specs.Vector.{vec, zero_vec, plus, scaled, over, length_squared, normalize}
use Rattle.accept.specs.Tables.{number_at}
use Rattle.order.specs.Order.{upto, bucket}
use Rattle.clusters.specs.declared.Cluster.{Cluster}
use Rattle.clusters.specs.declared.Sums.{Sums}
use Rattle.clusters.specs.declared.Voxels.{Voxels}
use Rattle.clusters.specs.Keys.{keys, key_of}
use Rattle.clusters.specs.Lent.{Surfels, Columns}

-- 1e-12
abbrev pub tiny : Float
tiny = of_bits binary32 0x2b8c_bccc

-- pi
abbrev pub pi : Float
pi = of_bits binary32 0x4049_0fdb

-- the key of surfel i
unfoldable pub surfel_key : Surfels → Voxels → ℕ → ℕ
surfel_key s v i = key_of v (vec_at s.p i) (vec_at s.normals i)

-- one member more: its place and its normal count by its area
unfoldable pub added : Surfels → Sums → ℕ → Sums
added s t i =
    let a = float_at s.area i in
    record { p = plus t.p (scaled (vec_at s.p i) a); n = plus t.n (scaled (vec_at s.normals i) a); area = t.area +f a }

-- the sums of members, in their order
unfoldable pub summed : Surfels → List ℕ → Sums
summed s members = fold (added s) (record { p = zero_vec; n = zero_vec; area = 0f }) (number_at members) (length members)

-- the normal from the summed normals: normalised, or y where their squared length is 1e-12 at most
unfoldable pub normal_from : Vec3 → Vec3
normal_from n = cond (lt tiny (length_squared n)) (normalize n) (vec 0f 1f 0f)

-- the cluster from the sums of its members; the radius is that of a disc with its area
unfoldable pub cluster_from : Sums → Cluster
cluster_from t = record { p = over t.p t.area; n = normal_from t.n; area = t.area; radius = square_root (t.area /f pi) }

-- whether a cluster with these members is dropped: its area is 1e-12 at most, as that of no members is
unfoldable pub dropped : Surfels → List ℕ → Bool
dropped s members = le (summed s members).area tiny

-- the members of the clusters: for each key below m, ascending, the surfels that have it, ascending
unfoldable pub groups_below : Surfels → Voxels → ℕ → List (List ℕ)
groups_below s v m =
    rows (λ c. let members = bucket (surfel_key s v) c (upto s.n) in cond (dropped s members) [] (members ∷ [])) m

unfoldable pub groups : Surfels → Voxels → List (List ℕ)
groups s v = groups_below s v (keys v.res)

-- group k of them
abbrev pub group_at : List (List ℕ) → ℕ → List ℕ
group_at gs k = get_or gs k []

-- how many members the first k groups have: where group k begins
abbrev pub group_start : List (List ℕ) → ℕ → ℕ
group_start gs k = length (rows (group_at gs) k)

-- what the columns hold: a cluster for each group, and past the last what they held
unfoldable pub columns_left : Surfels → List (List ℕ) → Columns → Columns
columns_left s gs l =
    let cluster : ℕ → Cluster = λ k. cluster_from (summed s (group_at gs k)) in
    record {
      p = written (λ k. (cluster k).p) (length gs) l.p;
      n = written (λ k. (cluster k).n) (length gs) l.n;
      area = filled (λ k. (cluster k).area) (length gs) l.area;
      radius = filled (λ k. (cluster k).radius) (length gs) l.radius;
      first = filled (group_start gs) (length gs) l.first;
      count = filled (λ k. length (group_at gs k)) (length gs) l.count;
      member = sets l.member 0 (rows (group_at gs) (length gs));
    }
