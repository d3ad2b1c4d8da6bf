-- What `build_clusters` answers and leaves, refused or not: document 01, 'The rows' and 'Refused calls'. Definitions only.
use Rattle.std.specs.Prelude.{ℕ, length, Result, Ok, Err}
use Rattle.vector.specs.declared.Vec3.{Vec3}
use Rattle.accept.specs.Refusal.{outcome}
use Rattle.accept.specs.declared.refusal.Refusal.{Refusal}
use Rattle.clusters.specs.declared.Clustered.{Clustered}
use Rattle.clusters.specs.Keys.{voxels_of}
use Rattle.clusters.specs.Lent.{Surfels, Columns}
use Rattle.clusters.specs.Grouping.{groups, group_start, columns_left}
use Rattle.clusters.specs.Checks.{lengths_of, check}

-- the answer and the columns; the scratch is given by its lengths
unfoldable pub build_clusters_answer : Surfels → Vec3 → Vec3 → ℕ → Columns → ℕ → ℕ → Result Clustered Refusal × Columns
build_clusters_answer s lo hi res l order spare =
    let gs = groups s (voxels_of lo hi res) in
    outcome (λ refusal. (Err refusal, l)) (Ok (record { clusters = length gs; members = group_start gs (length gs) }), columns_left s gs l)
    (check s lo hi res (lengths_of l order spare))

-- how much of the scratch is left open: two numbers a surfel, one in each slice, and none of a call that is refused
unfoldable pub scratch_open : Surfels → Vec3 → Vec3 → ℕ → Columns → ℕ → ℕ → ℕ
scratch_open s lo hi res l order spare = outcome (λ refusal. 0) s.n (check s lo hi res (lengths_of l order spare))
