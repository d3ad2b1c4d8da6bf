-- What refuses a call, from its tests, what a call that is not refused was lent, and what it answers. Assumes nothing.
use mathlib.Core.Bool.{Bool, cond}
use mathlib.Core.List.{List, [], ◌∷◌}
use mathlib.Core.Path.{◌≡◌, sym, ap, ◌∙◌}
use Prim.Native.Nat.{ℕ, ◌≤◌}
use borrow.Author.Tests.{leb-true}
use lib.Dec.{leb}
use lib.Ieee.{Float}
use lib.ListN.{length}
use Rattle.std.specs.Prelude.{Result, Ok, Err}
use Rattle.vector.specs.declared.Vec3.{Vec3}
use Rattle.vector.specs.Flat.{vec_at, written}
use Rattle.vector.proofs.Replaced.{length_written}
use Rattle.accept.specs.Limits.{max_surfels, max_entries}
use Rattle.accept.specs.declared.refusal.Refusal.{Refusal}
use Rattle.accept.specs.Refusal.{checked}
use Rattle.accept.specs.Tables.{at_most, holds}
use Rattle.accept.proofs.Bounded.{at_most-le, three_each}
use Rattle.accept.proofs.Every.{conj_each}
use Rattle.accept.proofs.Refused.{none_refused}
use Rattle.grid.specs.Cells.{cells}
use Rattle.tables.specs.Checks.{counts_within, tables_hold}
use Rattle.seeds.specs.declared.Spacing.{Spacing}
use Rattle.seeds.specs.Surfels.{surfel_at}
use Rattle.placement.specs.Answers.{surfel_of, generate_answer, head_open, next_open}
use Rattle.placement.specs.Chains.{points_left}
use Rattle.placement.specs.Checks.{spacing_for, head_need, few_enough, columns_hold, check}
use Rattle.placement.specs.Kept.{dims_in, point_at, placed, columns_by}
use Rattle.placement.specs.Lent.{Request, Columns, columns_of}
use Rattle.placement.specs.Needs.{Held, Roomy}
use Rattle.placement.proofs.Columned.{roomy_fewer, columns_put_points}
use Rattle.placement.proofs.Spread.{placed_few}

-- where the counts passed their test, the target is within its limit
pub target_few : (o : Request) (r : Refusal) {few : Bool} → few ≡ few_enough o → ◌≡◌ {A = Result Unit Refusal} (Ok tt) (cond few (Ok tt) (Err r)) → o.target ≤ max_surfels
unfolding few_enough checked
target_few o r {few} a e =
    let h = none_refused ((r, few) ∷ []) (sym e) in
    at_most-le _ _ (conj_each (at_most o.target max_surfels ∷ counts_within o.scene ∷ at_most o.mats max_entries ∷ []) (sym a ∙ h.0)).0

module _ (o : Request) (l : Columns) (head next : ℕ) where
  -- what the functions beneath ask
  pub record Accepted : Type 0 where
    pub few : o.target ≤ max_surfels
    pub roomy : Roomy o.target l
    pub celled : cells (dims_in (spacing_for o)) ≤ head
    pub linked : o.target ≤ next

  -- a call that is not refused was lent it
  pub accepted : check o l head next ≡ Ok tt → Accepted
  unfolding check few_enough columns_hold head_need
  accepted e =
      let n = o.target in
      let s = o.scene in
      let h = none_refused _ e in
      let a = conj_each (at_most n max_surfels ∷ counts_within s ∷ at_most o.mats max_entries ∷ []) h.0 in
      let b =
      conj_each
      (tables_hold s ∷ holds (length o.materials) o.mats 4 ∷ columns_hold n l ∷ leb (head_need o) head ∷ leb n next ∷ [])
      h.1.1.0
      in
      let c =
      conj_each
      (holds (length l.p) n 3
      ∷ holds (length l.n) n 3
      ∷ holds (length l.albedo) n 3
      ∷ leb n (length l.area)
      ∷ holds (length l.direct) n 3
      ∷ holds (length l.irr) n 3
      ∷ holds (length l.rad) n 3
      ∷ [])
      b.1.1.0
      in
      let t = c.1.1 in
      record {
        few = at_most-le _ _ a.0;
        roomy =
            record {
              points = three_each _ _ c.0;
              normals = three_each _ _ c.1.0;
              albedos = three_each _ _ t.0;
              areas = leb-true _ _ t.1.0;
              directs = three_each _ _ t.1.1.0;
              irrs = three_each _ _ t.1.1.1.0;
              rads = three_each _ _ t.1.1.1.1.0;
            };
        celled = leb-true _ _ b.1.1.1.0;
        linked = leb-true _ _ b.1.1.1.1.0;
      }

  -- refused, the columns are as they were
  pub answer_refused : {r : Refusal} → check o l head next ≡ Err r → ◌≡◌ {A = Result ℕ Refusal × Columns} (Err r, l) (generate_answer o l head next)
  unfolding generate_answer
  answer_refused e = rw e

  -- the points that are kept
  abbrev points : List Vec3
  points = placed o.scene (spacing_for o) o.target

  -- done, they have a surfel at each of them
  pub answer_done : {c : ℕ} {k : Columns} → check o l head next ≡ Ok tt
      → c ≡ length points → k ≡ columns_by (λ i. surfel_of o (point_at points i)) (length points) l
      → ◌≡◌ {A = Result ℕ Refusal × Columns} (Ok c, k) (generate_answer o l head next)
  unfolding generate_answer
  answer_done e a b = rw (e, a, b)

  -- of the scratch, what is needed is left open for a call that is done
  pub open_done : check o l head next ≡ Ok tt → (head_open o l head next ≡ head_need o) × (next_open o l head next ≡ o.target)
  unfolding head_open next_open
  open_done e = (rw e, rw e)

-- from one function beneath to the next, with the spacing that the code finds
module _ (o : Request) (l : Columns) {s : Spacing} (spacing_is : s ≡ spacing_for o) where
  -- what is needed of head
  pub need_is : cells (dims_in s) ≡ head_need o
  unfolding head_need
  need_is = rw spacing_is

  -- what `place` asks of a call that is not refused
  pub held : (head next : List ℕ) → check o l (length head) (length next) ≡ Ok tt → Held s o.target l.p head next
  held head next e =
      let a = accepted o l (length head) (length next) e in
      record { few = a.few; points = a.roomy.points; celled = rw spacing_is a.celled; linked = a.linked }

  -- c points, which `place` left in q
  module _ {c : ℕ} {q : List Float} (e : (c, q) ≡ points_left o.scene s o.target l.p) where
    -- the points
    abbrev kept_points : List Vec3
    kept_points = placed o.scene s o.target

    -- c is their number, and q has them
    count_is : c ≡ length kept_points
    unfolding points_left
    count_is = ap (λ (x : ℕ × List Float). x.0) e

    points_are : q ≡ written (point_at kept_points) (length kept_points) l.p
    unfolding points_left
    points_are = ap (λ (x : ℕ × List Float). x.1) e

    -- what `store` asks
    pub roomy_left : Roomy o.target l → Roomy c (columns_of q l.n l.albedo l.area l.direct l.irr l.rad)
    roomy_left r =
        let f = roomy_fewer (length kept_points) o.target l (placed_few o.scene s o.target) r in
        rw (count_is, points_are)
        (record {
          points = rw (length_written (point_at kept_points) (length kept_points) l.p f.points) f.points;
          normals = f.normals;
          albedos = f.albedos;
          areas = f.areas;
          directs = f.directs;
          irrs = f.irrs;
          rads = f.rads;
        })

    -- the answer, from the columns that `store` left
    pub answer_stored : (head next : ℕ) {k : Columns} → check o l head next ≡ Ok tt
        → k ≡ columns_by (λ i. surfel_at o.scene o.mats o.materials s (vec_at q i)) c (columns_of q l.n l.albedo l.area l.direct l.irr l.rad)
        → ◌≡◌ {A = Result ℕ Refusal × Columns} (Ok c, k) (generate_answer o l head next)
    answer_stored head next e d =
        answer_done o l head next e (count_is ∙ rw spacing_is)
        (d ∙ rw (count_is, points_are, spacing_is) (columns_put_points o.scene o.mats o.materials (spacing_for o) (placed o.scene (spacing_for o) o.target) l))
