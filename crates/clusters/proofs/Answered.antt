-- What a call that is not refused was lent, and what it answers. Assumes nothing.
use mathlib.Core.Bool.{Bool, ◌&&◌, and-eq-true_iff}
use mathlib.Core.List.{List, [], ◌∷◌}
use mathlib.Core.Path.{◌≡◌}
use Prim.Native.Nat.{ℕ, ◌≤◌}
use borrow.Author.Tests.{leb-true}
use lib.Dec.{leb}
use lib.ListN.{length}
use Rattle.vector.specs.declared.Vec3.{Vec3}
use Rattle.accept.specs.Limits.{max_surfels, min_resolution, max_resolution}
use Rattle.accept.specs.Ranges.{bounds}
use Rattle.accept.specs.Tables.{holds, at_most}
use Rattle.accept.proofs.Bounded.{at_most-le, three_each}
use Rattle.accept.proofs.Every.{conj_each}
use Rattle.accept.proofs.Refused.{none_refused}
use Rattle.accept.specs.declared.refusal.Refusal.{Refusal}
use Rattle.accept.specs.declared.refusal.Refusal.TheVariants.{Count, Range, Length, Float}
use Rattle.std.specs.Prelude.{Ok, Err}
use Rattle.clusters.specs.declared.Clustered.{Clustered}
use Rattle.clusters.specs.Answers.{build_clusters_answer, scratch_open}
use Rattle.clusters.specs.Checks.{voxels_fit, surfels_hold, lengths_of, floats_fit, lengths_hold, check}
use Rattle.clusters.specs.Grouping.{groups, columns_left}
use Rattle.clusters.specs.Keys.{voxels_of}
use Rattle.clusters.specs.Lent.{Surfels, Columns}
use Rattle.clusters.specs.Needs.{Held, Roomy, clustered_of}

module _ (s : Surfels) (lo hi : Vec3) (res : ℕ) (l : Columns) (order spare : ℕ) where
  -- what the functions beneath ask
  pub record Accepted : Type 0 where
    pub sized : res ≤ 64
    pub held : Held s (voxels_of lo hi res)
    pub roomy : Roomy s.n l
    pub ordered : s.n ≤ order
    pub spared : s.n ≤ spare

  abbrev tests : List (Refusal × Bool)
  tests =
      (Count, at_most s.n max_surfels)
      ∷ (Range, voxels_fit lo hi res)
      ∷ (Length, surfels_hold s && lengths_hold s.n (lengths_of l order spare))
      ∷ (Float, floats_fit s)
      ∷ []

  pub accepted : check s lo hi res (lengths_of l order spare) ≡ Ok tt → Accepted
  unfolding check voxels_fit surfels_hold lengths_hold voxels_of
  accepted e =
      let h = none_refused tests e in
      let v = conj_each (bounds lo hi ∷ leb min_resolution res ∷ leb res max_resolution ∷ []) h.1.0 in
      let both = (and-eq-true_iff (surfels_hold s) (lengths_hold s.n (lengths_of l order spare))).0 h.1.1.0 in
      let f = conj_each (holds (length s.p) s.n 3 ∷ holds (length s.normals) s.n 3 ∷ leb s.n (length s.area) ∷ []) both.0 in
      let c =
      conj_each
      (holds (length l.p) s.n 3
      ∷ holds (length l.n) s.n 3
      ∷ leb s.n (length l.area)
      ∷ leb s.n (length l.radius)
      ∷ leb s.n (length l.first)
      ∷ leb s.n (length l.count)
      ∷ leb s.n (length l.member)
      ∷ leb s.n order
      ∷ leb s.n spare
      ∷ [])
      both.1
      in
      let t = c.1.1 in
      record {
        sized = leb-true _ _ v.1.1.0;
        held =
            record {
              resolved = record { from = leb-true _ _ v.1.0; to = leb-true _ _ v.1.1.0 };
              few = at_most-le _ _ h.0;
              places = three_each _ _ f.0;
              normals = three_each _ _ f.1.0;
              areas = leb-true _ _ f.1.1.0;
            };
        roomy =
            record {
              centres = three_each _ _ c.0;
              normals = three_each _ _ c.1.0;
              areas = leb-true _ _ t.0;
              radii = leb-true _ _ t.1.0;
              firsts = leb-true _ _ t.1.1.0;
              counts = leb-true _ _ t.1.1.1.0;
              members = leb-true _ _ t.1.1.1.1.0;
            };
        ordered = leb-true _ _ t.1.1.1.1.1.0;
        spared = leb-true _ _ t.1.1.1.1.1.1.0;
      }

  -- done, the columns are those of the groups, and refused they are as they were
  pub answer_done : {c : Clustered} {k : Columns} → check s lo hi res (lengths_of l order spare) ≡ Ok tt
      → c ≡ clustered_of (groups s (voxels_of lo hi res)) → k ≡ columns_left s (groups s (voxels_of lo hi res)) l
      → (Ok c, k) ≡ build_clusters_answer s lo hi res l order spare
  unfolding build_clusters_answer
  answer_done e a b = rw (e, a, b)

  pub answer_refused : {refusal : Refusal} → check s lo hi res (lengths_of l order spare) ≡ Err refusal → (Err refusal, l) ≡ build_clusters_answer s lo hi res l order spare
  unfolding build_clusters_answer
  answer_refused e = rw e

  -- scratch is left open for n numbers of a call that is done
  pub open_done : check s lo hi res (lengths_of l order spare) ≡ Ok tt → scratch_open s lo hi res l order spare ≡ s.n
  unfolding scratch_open
  open_done e = rw e
