-- What a call that is not refused has, and what a call answers, refused or not. Assumes nothing.
use mathlib.Core.List.{List, [], ◌∷◌}
use mathlib.Core.Path.{◌≡◌}
use Prim.Native.Nat.{ℕ, ◌<◌}
use borrow.Author.Tests.{leb-true, ltb-true}
use lib.Dec.{leb, ltb}
use lib.Ieee.{Float}
use lib.ListN.{length}
use Rattle.std.specs.Prelude.{Result, Ok, Err}
use Rattle.vector.specs.declared.Vec3.{Vec3}
use Rattle.accept.specs.declared.refusal.Refusal.{Refusal}
use Rattle.accept.specs.Limits.{max_surfels, max_clusters}
use Rattle.accept.specs.Tables.{at_most, column}
use Rattle.accept.proofs.Bounded.{three_each}
use Rattle.accept.proofs.Every.{conj_each}
use Rattle.accept.proofs.Refused.{none_refused}
use Rattle.tables.specs.Checks.{counts_within, tables_hold}
use Rattle.formfactor.specs.declared.BuildError.{BuildError}
use Rattle.formfactor.specs.declared.BuildError.TheVariants.{Refused}
use Rattle.formfactor.specs.declared.Built.{Built}
use Rattle.formfactor.specs.Lent.{Setting}
use Rattle.formfactor.specs.Checks.{surfels_hold, emitters_hold, check}
use Rattle.formfactor.specs.Answers.{built, build_answer, scratch_open}
use Rattle.formfactor.specs.Needs.{Held, ScratchHeld}

-- a call that is not refused has its columns, a start for each row and one more, and its scratch
pub held : (lo hi : Vec3) (t : Setting) (starts link : List ℕ) (weight : List Float) → check lo hi t (length starts) (length link) (length weight) ≡ Ok tt
    → Held t × (t.n < length starts) × ScratchHeld t.emitters.nc link weight
unfolding check surfels_hold emitters_hold
held lo hi t starts link weight e =
    let s = t.scene in
    let m = t.emitters in
    let passed = none_refused _ e in
    let few = conj_each (at_most t.n max_surfels ∷ at_most m.nc max_clusters ∷ counts_within s ∷ []) passed.0 in
    let lent = conj_each (tables_hold s ∷ surfels_hold t.n t.p t.normals (length starts) ∷ emitters_hold m (length link) (length weight) ∷ []) passed.1.1.0 in
    let x = conj_each (column t.p t.n ∷ column t.normals t.n ∷ ltb t.n (length starts) ∷ []) lent.1.0 in
    let y = conj_each
    (column m.p m.nc ∷ column m.n m.nc ∷ leb m.nc (length m.area) ∷ leb m.nc (length m.radius) ∷ leb m.nc (length link) ∷ leb m.nc (length weight) ∷ [])
    lent.1.1.0 in (
      record {
        surfels =
            record {
              few = leb-true _ _ few.0;
              places = three_each (length t.p) t.n x.0;
              directions = three_each (length t.normals) t.n x.1.0;
            };
        emitters =
            record {
              few = leb-true _ _ few.1.0;
              places = three_each (length m.p) m.nc y.0;
              normals = three_each (length m.n) m.nc y.1.0;
              areas = leb-true _ _ y.1.1.0;
              radii = leb-true _ _ y.1.1.1.0;
            };
      },
      ltb-true _ _ x.1.1.0,
      record {
        links = leb-true _ _ y.1.1.1.1.0;
        weights = leb-true _ _ y.1.1.1.1.1.0;
      },
    )

-- among them a start for each row and one more
pub started : (lo hi : Vec3) (t : Setting) (starts link weight : ℕ) → check lo hi t starts link weight ≡ Ok tt → t.n < starts
unfolding check surfels_hold
started lo hi t starts link weight e =
    let lent = conj_each (tables_hold t.scene ∷ surfels_hold t.n t.p t.normals starts ∷ emitters_hold t.emitters link weight ∷ []) (none_refused _ e).1.1.0 in
    ltb-true _ _ (conj_each (column t.p t.n ∷ column t.normals t.n ∷ ltb t.n starts ∷ []) lent.1.0).1.1.0

-- what is answered, and how much of the scratch is left open, where the call is refused and where it is not
module _ (lo hi : Vec3) (t : Setting) (starts cluster : List ℕ) (weight : List Float) (link scratch : ℕ) where
  pub when_refused : {r : Refusal} → check lo hi t (length starts) link scratch ≡ Err r
      → ◌≡◌ {A = Result Built BuildError × List ℕ × List ℕ × List Float} (Err (Refused r), starts, cluster, weight) (build_answer lo hi t starts cluster weight link scratch)
  unfolding build_answer
  when_refused e = rw e

  pub when_built : check lo hi t (length starts) link scratch ≡ Ok tt
      → (built t starts cluster weight ≡ build_answer lo hi t starts cluster weight link scratch) × (scratch_open lo hi t (length starts) link scratch ≡ t.emitters.nc)
  unfolding build_answer scratch_open
  when_built e = (rw e, rw e)
