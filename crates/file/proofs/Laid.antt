-- Where a file ends as its counts say, it has each column in full. Assumes nothing.
use mathlib.Core.Bool.{true}
use mathlib.Core.List.{List, [], ◌∷◌}
use mathlib.Core.Path.{◌≡◌, refl}
use Prim.Native.Nat.{ℕ, ◌+◌, ◌*◌, ◌≤◌}
use native.Mathlib.Nat.{mul_comm, le-mul_of_pos_right}
use native.Mathlib.Omega.{arith}
use lib.Dec.{leb}
use lib.ListN.{length}
use borrow.Author.Tests.{le-leb, leb-true}
use Rattle.accept.specs.Every.{conj}
use Rattle.accept.specs.Limits.{max_file}
use Rattle.accept.proofs.Every.{conj_each}
use Rattle.file.specs.declared.Column.{Column}
use Rattle.file.specs.declared.Counts.{Counts}
use Rattle.file.specs.Words.{words}
use Rattle.file.specs.Blocks.{column_of, surfels_from, clusters_from, members_from, starts_from, links_from, probes_from}
use Rattle.file.specs.Blocks.{points, normals, albedos, areas, directs, cluster_areas, firsts, member_counts, members}
use Rattle.file.specs.Blocks.{row_starts, link_clusters, link_weights, probe_points, probe_normals}
use Rattle.file.specs.Columns.{inside}
use Rattle.file.specs.Needs.{Ends}

-- a column whose entries a file has all: `width` words of each, `step` words from one to the next
pub record Standing (b : List ℕ) (col : Column) : Type 0 where
  pub some : 1 ≤ col.width
  pub narrow : col.width ≤ col.step
  pub step_few : col.step ≤ 16
  pub count_few : col.count ≤ words b
  pub last : col.from + col.step * col.count + col.width ≤ words b + col.step

-- it lies in the file, by the test of that
pub stands_tested : {b : List ℕ} {col : Column} → length b ≤ max_file → Standing b col → inside b col ≡ true
unfolding inside
stands_tested {b} {col} h k =
    rw (
      le-leb (length b) max_file h,
      le-leb 1 col.width k.some,
      le-leb col.width col.step k.narrow,
      le-leb col.step 16 k.step_few,
      le-leb col.count (words b) k.count_few,
      le-leb (col.from + col.step * col.count + col.width) (words b + col.step) k.last,
    )

-- a block of the file has `count` entries of `step` words from word `block` on, and the words that the column has of an entry begin `offset` words behind it
stand : {b : List ℕ} (block offset step width : ℕ) {from count : ℕ} → conj (leb (offset + width) step ∷ leb 1 width ∷ leb step 16 ∷ []) ≡ true
    → from ≡ block + offset → block + step * count ≤ words b → Standing b (column_of from step width count)
stand block offset step width {count = count} e f h =
    let t = conj_each (leb (offset + width) step ∷ leb 1 width ∷ leb step 16 ∷ []) e in
    let k = leb-true (offset + width) step t.0 in
    let o = leb-true 1 width t.1.0 in
    record {
      some = o;
      narrow = omega arith;
      step_few = leb-true step 16 t.1.1.0;
      count_few = omega (arith, mul_comm step count, le-mul_of_pos_right {m = step} count (omega arith));
      last = omega arith;
    }

-- each column of a file that ends where its counts say
module _ {b : List ℕ} {c : Counts} (e : Ends b c) where
  pub points_stand : Standing b (points c)
  points_stand = stand surfels_from 0 13 3 refl (omega arith) (omega (arith, e))

  pub normals_stand : Standing b (normals c)
  normals_stand = stand surfels_from 3 13 3 refl (omega arith) (omega (arith, e))

  pub albedos_stand : Standing b (albedos c)
  albedos_stand = stand surfels_from 6 13 3 refl (omega arith) (omega (arith, e))

  pub areas_stand : Standing b (areas c)
  areas_stand = stand surfels_from 9 13 1 refl (omega arith) (omega (arith, e))

  pub directs_stand : Standing b (directs c)
  directs_stand = stand surfels_from 10 13 3 refl (omega arith) (omega (arith, e))

  pub cluster_areas_stand : Standing b (cluster_areas c)
  cluster_areas_stand = stand (clusters_from c) 0 3 1 refl (omega arith) (omega (arith, e))

  pub firsts_stand : Standing b (firsts c)
  firsts_stand = stand (clusters_from c) 1 3 1 refl (omega arith) (omega (arith, e))

  pub member_counts_stand : Standing b (member_counts c)
  member_counts_stand = stand (clusters_from c) 2 3 1 refl (omega arith) (omega (arith, e))

  pub members_stand : Standing b (members c)
  members_stand = stand (members_from c) 0 1 1 refl (omega arith) (omega (arith, e))

  pub row_starts_stand : Standing b (row_starts c)
  row_starts_stand = stand (starts_from c) 0 1 1 refl (omega arith) (omega (arith, e))

  pub link_clusters_stand : Standing b (link_clusters c)
  link_clusters_stand = stand (links_from c) 0 2 1 refl (omega arith) (omega (arith, e))

  pub link_weights_stand : Standing b (link_weights c)
  link_weights_stand = stand (links_from c) 1 2 1 refl (omega arith) (omega (arith, e))

  pub probe_points_stand : Standing b (probe_points c)
  probe_points_stand = stand (probes_from c + 8) 0 6 3 refl (omega arith) (omega (arith, e))

  pub probe_normals_stand : Standing b (probe_normals c)
  probe_normals_stand = stand (probes_from c + 8) 3 6 3 refl (omega arith) (omega (arith, e))
