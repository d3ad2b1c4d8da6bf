-- Runs of equal keys in the order of the keys: a run begins where its key begins, and ends where the next one does. Assumes nothing.
use mathlib.Core.List.{List, ◌++◌}
use mathlib.Core.Logic.{inl, inr}
use mathlib.Core.Path.{◌≡◌, sym, ap, ◌∙◌}
use Prim.Native.Nat.{ℕ, suc, ◌+◌, ◌-◌, ◌<◌, ◌≤◌}
use native.Mathlib.Nat.{eq-or-lt_of_le}
use native.Mathlib.Omega.{arith}
use lib.ListN.{length, get_or, take, drop, length-take, length-drop, take-append-drop}
use lib.Seq.{slice, get_or-take, get_or-drop}
use Rattle.std.specs.Prelude.{Option, Some, None, MatchOption}
use Rattle.std.specs.List.{AllWithin, HoldsAt}
use Rattle.std.proofs.lemmas.List.{get_or_default}
use Rattle.accept.specs.Tables.{number_at}
use Rattle.order.specs.Order.{upto, bucket, ordered, earlier}
use Rattle.order.proofs.Counting.{standing, standing_stands}
use Rattle.order.proofs.Facts.{earlier_rises, own_range, range_own, slice_ordered}
use Rattle.order.proofs.Ranks.{lt_or_le, earlier_small}
use Rattle.clusters.specs.Sorting.{Run}

-- the numbers after place a, of n
module _ (n a : ℕ) (l : List ℕ) (h : a < n) (long : n ≤ length l) where
  abbrev pub following : List ℕ
  following = take (n - (a + 1)) (drop (a + 1) l)

  length_following : length following ≡ n - (a + 1)
  length_following = omega (arith, length-take (n - (a + 1)) (drop (a + 1) l), length-drop (a + 1) l)

  at_following : (k d : ℕ) → k < length following → get_or following k d ≡ number_at l (a + 1 + k)
  at_following k d p =
      get_or-take (n - (a + 1)) (drop (a + 1) l) k d (omega (arith, length_following)) ∙ get_or-drop (a + 1) l k d
      ∙ get_or_default l (a + 1 + k) d 0 (omega (arith, length_following))

  pub following_below : ((k : ℕ) → k < n → number_at l k < n) → (x k : ℕ) → k < length following → x ≡ get_or following k x → x < n
  following_below below x k p e = omega (arith, e, at_following k x p, below (a + 1 + k) (omega (arith, length_following)))

  same-at : (key : ℕ → ℕ) (m : ℕ) → m ≤ length following → AllWithin (λ i. key i ≡ key (number_at l a)) following 0 m
      → (k : ℕ) → a ≤ k → k < a + 1 + m → key (number_at l k) ≡ key (number_at l a)
  same-at key m q w k f g =
      elim (eq-or-lt_of_le f) [
        | inl e ↦ ap (λ (i : ℕ). key (number_at l i)) (sym e)
        | inr p ↦
            let there : a + 1 + (k - (a + 1)) ≡ k = omega arith in
            sym (ap key (at_following (k - (a + 1)) 0 (omega arith) ∙ ap (number_at l) there)) ∙ w (k - (a + 1)) 0 (omega arith) (omega arith)
      ]

  -- the run of place a ends at the first of them that has another key, or else behind all
  pub run_to : (key : ℕ → ℕ) (r : Option ℕ) (e : ℕ)
      → MatchOption r
      (AllWithin (λ i. key i ≡ key (number_at l a)) following 0 (length following))
      (λ k. (k < length following) × HoldsAt (λ i. key i ≡ key (number_at l a) → ⊥) following k × AllWithin (λ i. key i ≡ key (number_at l a)) following 0 k)
      → MatchOption r (e ≡ n) (λ k. e ≡ a + 1 + k) → Run (λ k. key (number_at l k)) n a e
  run_to key None e w q =
      record { past = omega arith; within = omega arith; same = λ k f g. same-at key (length following) (omega arith) w k f (omega (arith, length_following)); ends = λ f. absurd (omega arith) }
  run_to key (Some k) e w q =
      record {
        past = omega arith;
        within = omega (arith, length_following, w.0);
        same = λ j f g. same-at key k (omega (arith, w.0)) w.2 j f (omega arith);
        ends = λ f g. w.1 0 (ap key (at_following k 0 w.0 ∙ ap (number_at l) (sym q)) ∙ g);
      }

-- the first n numbers of l are those of 0 .. n - 1 in the order of a key, all keys being below m
module _ (key : ℕ → ℕ) (n m : ℕ) (all : (i : ℕ) → i < n → key i < m) (l : List ℕ) (sorted : take n l ≡ ordered key m (upto n)) where
  pub number_there : (k : ℕ) → k < n → number_at l k ≡ standing key n m k
  unfolding standing
  number_there k h = sym (get_or-take n l k 0 h) ∙ ap (λ (t : List ℕ). get_or t k 0) sorted

  pub number_small : (k : ℕ) → k < n → number_at l k < n
  number_small k h = rw (number_there k h) (standing_stands key n m all k h).below

  -- a run that begins where the keys below d end
  module _ (at d r : ℕ) (w : at ≡ earlier key (upto n) d) (h : at < n) (run : Run (λ k. key (number_at l k)) n at r) where
    -- the run's key
    abbrev pub run_key : ℕ
    run_key = key (standing key n m at)

    same_key : (k : ℕ) → at ≤ k → k < r → key (standing key n m k) ≡ run_key
    same_key k f g =
        sym (ap key (number_there k (omega (arith, run.within)))) ∙ run.same k f g ∙ ap key (number_there at h)

    here : (earlier key (upto n) run_key ≤ at) × (at < earlier key (upto n) (suc run_key))
    here = own_range key n m all at h

    pub key_below : run_key < m
    key_below = (standing_stands key n m all at h).keyed

    pub reached : d ≤ run_key
    reached = elim (lt_or_le run_key d) [ inl f ↦ absurd (omega (arith, here.1, w, earlier_rises key n (suc run_key) d f)) | inr f ↦ f ]

    pub run_begins : at ≡ earlier key (upto n) run_key
    run_begins = omega (arith, here.0, w, earlier_rises key n d run_key reached)

    pub run_ends : r ≡ earlier key (upto n) (suc run_key)
    run_ends =
        let e = earlier key (upto n) (suc run_key) in
        let s = earlier_small key n (suc run_key) in
        elim (lt_or_le r e) [
          | inl f ↦ absurd (run.ends (omega arith) (ap key (number_there r (omega arith)) ∙ range_own key n m all r run_key (omega arith) (omega (arith, here.0, run.past)) f ∙ sym (ap key (number_there at h))))
          | inr f ↦
              elim (eq-or-lt_of_le f) [
                | inl q ↦ sym q
                | inr g ↦
                    let o = (own_range key n m all e (omega (arith, run.within))).1 in
                    let q = same_key e (omega (arith, here.1)) g in
                    absurd (omega (arith, rw q at o))
              ]
        ]

    -- the numbers of the run are those that have its key
    pub run_numbers : slice at r l ≡ bucket key run_key (upto n)
    run_numbers =
        let e : l ≡ ordered key m (upto n) ++ drop n l = sym (take-append-drop n l) ∙ ap (λ (t : List ℕ). t ++ drop n l) sorted in
        ap (λ (k : ℕ). slice k r l) run_begins
        ∙ ap (λ (k : ℕ). slice (earlier key (upto n) run_key) k l) run_ends
        ∙ ap (slice (earlier key (upto n) run_key) (earlier key (upto n) (suc run_key))) e
        ∙ slice_ordered key n m run_key (drop n l) key_below
