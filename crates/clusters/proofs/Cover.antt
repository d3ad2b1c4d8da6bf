-- What the groups hold: the members of a group have one key and ascend, keys ascend from group to group, and each surfel whose group is not dropped is a member exactly
-- once. Assumes nothing.
use mathlib.Core.Bool.{Bool, true, false}
use mathlib.Core.List.{[], ◌∷◌}
use mathlib.Core.Logic.{inl, inr}
use mathlib.Core.Path.{◌≡◌, refl, sym, ap, ◌∙◌}
use Prim.Native.Nat.{ℕ, zero, suc, ◌≤◌, ◌<◌}
use native.Mathlib.Nat.{eq-or-lt_of_le}
use native.Mathlib.Omega.{arith}
use lib.ListN.{length, length-append, get_or-append}
use lib.Seq.{get_or_at}
use Rattle.accept.specs.Tables.{number_at}
use Rattle.order.specs.Order.{upto, bucket}
use Rattle.order.proofs.Facts.{count_rises}
use Rattle.order.proofs.Ranks.{lt_or_le, upto_below, InBucket, in_bucket}
use Rattle.clusters.specs.declared.Voxels.{Voxels}
use Rattle.clusters.specs.Grouping.{surfel_key, dropped, groups_below, groups, group_at}
use Rattle.clusters.specs.Keys.{keys}
use Rattle.clusters.specs.Lent.{Surfels}
use Rattle.clusters.specs.Needs.{Resolved}
use Rattle.clusters.proofs.Gathered.{keyed, below_kept, below_dropped, Keyed, group_keyed}
use Rattle.clusters.proofs.Numbered.{key_below}

module _ (s : Surfels) (v : Voxels) where
  abbrev key : ℕ → ℕ
  key = surfel_key s v

  -- one key more, no fewer groups
  below_more : (c : ℕ) (t : Bool) → dropped s (keyed s v c) ≡ t → length (groups_below s v c) ≤ length (groups_below s v (suc c))
  below_more c true e = rw (below_dropped s v c e) (omega arith)
  below_more c false e = rw (below_kept s v c e, length-append) (omega arith)

  below_rises : (c d : ℕ) → c ≤ d → length (groups_below s v c) ≤ length (groups_below s v d)
  below_rises c zero h = by_none (omega arith)
    where
      by_none : c ≡ 0 → length (groups_below s v c) ≤ length (groups_below s v 0)
      by_none e = rw e (omega arith)
  below_rises c (suc d) h =
      elim (eq-or-lt_of_le h) [ inl e ↦ rw e (omega arith) | inr l ↦ omega (arith, below_rises c d (omega arith), below_more d _ refl) ]

  -- the group of a key that is not dropped comes after those of smaller keys
  group_below : (d c : ℕ) → d < c → dropped s (keyed s v d) ≡ false
      → (length (groups_below s v d) < length (groups_below s v c)) × (group_at (groups_below s v c) (length (groups_below s v d)) ≡ keyed s v d)
  group_below d zero h e = absurd (omega arith)
  group_below d (suc c) h e =
      elim (eq-or-lt_of_le {n = d} {m = c} (omega arith)) [
        | inl q ↦ rw q (last (rw q at e))
        | inr l ↦ later _ refl (group_below d c l e)
      ]
    where
      last : dropped s (keyed s v c) ≡ false
          → (length (groups_below s v c) < length (groups_below s v (suc c))) × (group_at (groups_below s v (suc c)) (length (groups_below s v c)) ≡ keyed s v c)
      last f = let gs = groups_below s v c in rw (below_kept s v c f, length-append gs (keyed s v c ∷ [])) (omega arith, get_or_at gs (keyed s v c) [] [] (length gs) refl)

      later : (t : Bool) → dropped s (keyed s v c) ≡ t
          → (length (groups_below s v d) < length (groups_below s v c)) × (group_at (groups_below s v c) (length (groups_below s v d)) ≡ keyed s v d)
          → (length (groups_below s v d) < length (groups_below s v (suc c))) × (group_at (groups_below s v (suc c)) (length (groups_below s v d)) ≡ keyed s v d)
      later true f w = rw (below_dropped s v c f) w
      later false f w =
          let gs = groups_below s v c in
          rw (below_kept s v c f, length-append gs (keyed s v c ∷ []))
          (omega (arith, w.0), get_or-append gs (keyed s v c ∷ []) [] (length (groups_below s v d)) w.0 ∙ w.1)

  -- group k, and which surfel is its member number q
  module _ (k : ℕ) (h : k < length (groups s v)) where
    pub group_is : Keyed s v (keys v.res) k
    unfolding groups
    group_is = group_keyed s v (keys v.res) k h

    same_group : group_at (groups s v) k ≡ keyed s v group_is.of_key
    unfolding groups
    same_group = group_is.there

    pub member : (q : ℕ) → q < length (group_at (groups s v) k) → InBucket key group_is.of_key s.n q (number_at (group_at (groups s v) k) q)
    member q l = rw same_group (in_bucket key group_is.of_key s.n q (rw same_group at l))

    -- the members of a group ascend
    pub group_ascends : (p q : ℕ) → p < q → q < length (group_at (groups s v) k) → number_at (group_at (groups s v) k) p < number_at (group_at (groups s v) k) q
    group_ascends p q f l =
        let a = member p (omega arith) in
        let b = member q l in
        elim (lt_or_le (number_at (group_at (groups s v) k) p) (number_at (group_at (groups s v) k) q)) [
          | inl g ↦ g
          | inr g ↦ absurd (omega (arith, a.earlier, b.earlier, count_rises key group_is.of_key _ _ g))
        ]

  -- keys ascend from group to group
  pub groups_ascend : (j k p q : ℕ) → j < k → (h : k < length (groups s v)) → p < length (group_at (groups s v) j) → q < length (group_at (groups s v) k)
      → surfel_key s v (number_at (group_at (groups s v) j) p) < surfel_key s v (number_at (group_at (groups s v) k) q)
  groups_ascend j k p q f h l m =
      let i : j < length (groups s v) = omega arith in
      let a = group_is j i in
      let b = group_is k h in
      rw ((member j i p l).keyed, (member k h q m).keyed)
      (elim (lt_or_le a.of_key b.of_key) [
        | inl g ↦ g
        | inr g ↦ absurd (omega (arith, a.rank, b.rank, below_rises b.of_key a.of_key g))
      ])

  -- surfel i is a member of one group, at one place
  pub record Once (i : ℕ) : Type 0 where
    pub group : ℕ
    pub place : ℕ
    pub group_below : group < length (groups s v)
    pub place_below : place < length (group_at (groups s v) group)
    pub there : number_at (group_at (groups s v) group) place ≡ i
    pub only : (k q : ℕ) → k < length (groups s v) → q < length (group_at (groups s v) k) → number_at (group_at (groups s v) k) q ≡ i → (k ≡ group) × (q ≡ place)

  -- each surfel whose group is not dropped is
  pub groups_cover : Resolved v → (i : ℕ) → i < s.n → dropped s (keyed s v (surfel_key s v i)) ≡ false → Once i
  unfolding groups
  groups_cover r i h e =
      let c = key i in
      let b = bucket key c (upto i) in
      let w = group_below c (keys v.res) (key_below s v i r) e in
      let (rest, u) = upto_below key c i s.n h refl in
      record {
        group = length (groups_below s v c);
        place = length b;
        group_below = w.0;
        place_below = rw (w.1, u, length-append) (omega arith);
        there = rw (w.1, u) (get_or_at b i rest 0 (length b) refl);
        only = λ k q l m f.
            let x = member k l q m in
            let y : (group_is k l).of_key ≡ c = sym x.keyed ∙ ap key f in
            (sym (group_is k l).rank ∙ rw y, sym x.earlier ∙ rw (y, f));
      }
