-- The groups of surfels, gathered from their numbers in the order of the keys: which groups are kept, and the loop that goes from run to run. Assumes nothing.
use mathlib.Core.Bool.{Bool, true, false, cond}
use mathlib.Core.List.{List, [], ◌∷◌, ◌++◌, append-nil}
use mathlib.Core.Logic.{inl, inr}
use mathlib.Core.Path.{◌≡◌, refl, sym, ap, ◌∙◌}
use Prim.Native.Nat.{ℕ, zero, suc, ◌+◌, ◌-◌, ◌≤◌, ◌<◌}
use native.Mathlib.Nat.{eq-or-lt_of_le}
use native.Mathlib.Omega.{arith}
use lib.Ieee.{le, lt, eq, of_bits}
use lib.ListN.{length, set, take, drop, length-append, length-take, get_or-append}
use lib.Seq.{slice, sets, get_or_at, get_or-take, get_or-drop}
use Rattle.vector.specs.Flat.{rows}
use Rattle.vector.specs.Fold.{fold}
use Rattle.accept.specs.Tables.{number_at}
use Rattle.order.specs.Order.{upto, bucket, earlier}
use Rattle.order.proofs.Facts.{earlier_next, earlier_rises}
use Rattle.order.proofs.Ranks.{length_ordered, earlier_small}
use Rattle.clusters.specs.declared.Voxels.{Voxels}
use Rattle.clusters.specs.Grouping.{surfel_key, summed, dropped, groups_below, groups, group_at}
use Rattle.clusters.specs.Keys.{keys}
use Rattle.clusters.specs.Lent.{Surfels}
use Rattle.clusters.specs.Needs.{Resolved, Numbers, AllBelow, Sorted, clustered_of, first_left, count_left, member_left}
use Rattle.clusters.specs.Sorting.{Run}
use Rattle.clusters.proofs.Numbered.{key_below}
use Rattle.clusters.proofs.Runs as runs
use Rattle.clusters.proofs.Stored.{joined, joined_none, first_none, count_none, member_none, joined_more, first_more, count_more, member_more}

no_members : (l : List ℕ) → length l ≡ 0 → l ≡ []
no_members [] e = refl
no_members (x ∷ l) e = absurd (omega arith)

module _ (s : Surfels) (v : Voxels) where
  abbrev key : ℕ → ℕ
  key = surfel_key s v

  -- the surfels that have the key c
  abbrev pub keyed : ℕ → List ℕ
  keyed c = bucket (surfel_key s v) c (upto s.n)

  -- where they begin in the order of the keys
  abbrev begin : ℕ → ℕ
  begin c = earlier (surfel_key s v) (upto s.n) c

  below_step : (c : ℕ) → groups_below s v (suc c) ≡ groups_below s v c ++ cond (dropped s (keyed c)) [] (keyed c ∷ [])
  unfolding groups_below rows
  below_step c = refl

  below_none : groups_below s v 0 ≡ []
  unfolding groups_below rows
  below_none = refl

  pub below_kept : (c : ℕ) → dropped s (keyed c) ≡ false → groups_below s v (suc c) ≡ groups_below s v c ++ (keyed c ∷ [])
  below_kept c e = below_step c ∙ rw e

  pub below_dropped : (c : ℕ) → dropped s (keyed c) ≡ true → groups_below s v (suc c) ≡ groups_below s v c
  below_dropped c e = below_step c ∙ rw (e, append-nil)

  -- a key that no surfel has makes no group
  none_dropped : dropped s [] ≡ true
  unfolding dropped summed fold le lt eq of_bits
  none_dropped = refl

  empty_dropped : (c : ℕ) → length (keyed c) ≡ 0 → dropped s (keyed c) ≡ true
  empty_dropped c e = rw (no_members (keyed c) e) none_dropped

  below_skip : (d c : ℕ) → d ≤ c → begin c ≡ begin d → groups_below s v c ≡ groups_below s v d
  below_skip d zero h e = ap (groups_below s v) (omega arith)
  below_skip d (suc c) h e =
      elim (eq-or-lt_of_le h) [
        | inl q ↦ rw q
        | inr l ↦
            let r = earlier_rises key s.n d c (omega arith) in
            let z : length (keyed c) ≡ 0 = omega (arith, r, earlier_next key s.n c) in
            below_dropped c (empty_dropped c z) ∙ below_skip d c (omega arith) (omega (arith, r, earlier_next key s.n c))
      ]

  some_kept : (c k : ℕ) → length (keyed c) ≡ k → dropped s (keyed c) ≡ false → 0 < length (keyed c)
  some_kept c zero e f = absurd (let z : ◌≡◌ {A = ℕ} 0 1 = ap (λ (t : Bool). cond t 0 1) (sym (empty_dropped c e) ∙ f) in omega arith)
  some_kept c (suc k) e f = omega arith

  -- no more groups, and no more members, than surfels that have a key below c
  pub below_small : (c : ℕ) → (length (groups_below s v c) ≤ begin c) × (length (joined (groups_below s v c)) ≤ begin c)
  below_small zero = rw (below_none, joined_none) (omega arith, omega arith)
  below_small (suc c) = by_test _ refl (below_small c)
    where
      by_test : (t : Bool) → dropped s (keyed c) ≡ t → (length (groups_below s v c) ≤ begin c) × (length (joined (groups_below s v c)) ≤ begin c)
          → (length (groups_below s v (suc c)) ≤ begin (suc c)) × (length (joined (groups_below s v (suc c))) ≤ begin (suc c))
      by_test true e w = rw (below_dropped c e) (omega (arith, w, earlier_next key s.n c), omega (arith, w, earlier_next key s.n c))
      by_test false e w =
          let n = earlier_next key s.n c in
          let z = some_kept c _ refl e in
          rw (below_kept c e, joined_more (groups_below s v c) (keyed c), length-append (joined (groups_below s v c)) (keyed c), length-append (groups_below s v c) (keyed c ∷ []))
          (omega (arith, w, n, z), omega (arith, w, n))

  -- each group has the surfels of one key, was not dropped, and comes after the groups of smaller keys
  pub record Keyed (c k : ℕ) : Type 0 where
    pub of_key : ℕ
    pub below : of_key < c
    pub kept : dropped s (keyed of_key) ≡ false
    pub there : group_at (groups_below s v c) k ≡ keyed of_key
    pub rank : length (groups_below s v of_key) ≡ k

  pub group_keyed : (c k : ℕ) → k < length (groups_below s v c) → Keyed c k
  group_keyed zero k h = absurd (omega (arith, ap (length {A = List ℕ}) below_none))
  group_keyed (suc c) k h = by_test _ refl (group_keyed c k)
    where
      by_test : (t : Bool) → dropped s (keyed c) ≡ t → (k < length (groups_below s v c) → Keyed c k) → Keyed (suc c) k
      by_test true e w =
          let g = w (rw (below_dropped c e) at h) in
          record { of_key = g.of_key; below = omega (arith, g.below); kept = g.kept; there = rw (below_dropped c e) g.there; rank = g.rank }
      by_test false e w =
          let gs = groups_below s v c in
          let l : k < length gs + 1 = rw (below_kept c e, length-append gs (keyed c ∷ [])) at h in
          elim (eq-or-lt_of_le {n = k} {m = length gs} (omega arith)) [
            | inl q ↦ record { of_key = c; below = omega arith; kept = e; there = rw (below_kept c e) (get_or_at gs (keyed c) [] [] k (sym q)); rank = sym q }
            | inr q ↦
                let g = w q in
                record { of_key = g.of_key; below = omega (arith, g.below); kept = g.kept; there = rw (below_kept c e) (get_or-append gs (keyed c ∷ []) [] k q ∙ g.there); rank = g.rank }
          ]

  -- what is known where a run begins: the keys below d are done
  pub record Part (first₀ count₀ members₀ first count members : List ℕ) (at k w : ℕ) : Type 0 where
    pub d : ℕ
    pub low : d ≤ keys v.res
    pub begins : at ≡ begin d
    pub number : k ≡ length (groups_below s v d)
    pub width : w ≡ length (joined (groups_below s v d))
    pub firsts : first ≡ first_left (groups_below s v d) first₀
    pub counts : count ≡ count_left (groups_below s v d) count₀
    pub stored : members ≡ member_left (groups_below s v d) members₀

  pub part_none : (first₀ count₀ members₀ : List ℕ) → Part first₀ count₀ members₀ first₀ count₀ members₀ 0 0 0
  unfolding rows
  part_none first₀ count₀ members₀ =
      record {
        d = 0;
        low = omega arith;
        begins = refl;
        number = rw below_none;
        width = rw below_none;
        firsts = rw below_none (first_none first₀);
        counts = rw below_none (count_none count₀);
        stored = rw below_none (member_none members₀);
      }

  -- l has the numbers in the order of their keys, and there is room for as many groups and members
  module _ (r : Resolved v) (l first₀ count₀ members₀ : List ℕ) (sorted : Sorted s v l)
      (wide : s.n ≤ length first₀) (long : s.n ≤ length count₀) where
    all : (i : ℕ) → i < s.n → key i < keys v.res
    all i h = key_below s v i r

    pub numbers : Numbers s.n l
    numbers = record { held = sorted.held; below = runs.number_small key s.n (keys v.res) all l sorted.as_sorted }

    pub part_below : (a e : ℕ) → a ≤ e → e ≤ s.n → AllBelow s.n (take (e - a) (drop a l))
    part_below a e h m k p =
        let q : k < e - a = omega (arith, length-take (e - a) (drop a l), p) in
        rw (get_or-take (e - a) (drop a l) k 0 q, get_or-drop a l k 0) (numbers.below (a + k) (omega arith))

    pub record Ended (first count members : List ℕ) (k w : ℕ) : Type 0 where
      pub answer : record { clusters = k; members = w } ≡ clustered_of (groups s v)
      pub firsts : first ≡ first_left (groups s v) first₀
      pub counts : count ≡ count_left (groups s v) count₀
      pub stored : members ≡ member_left (groups s v) members₀

    pub part_all : {first count members : List ℕ} {at k w : ℕ} → Part first₀ count₀ members₀ first count members at k w → s.n ≤ at → Ended first count members k w
    unfolding groups
    part_all g h =
        let e : begin (keys v.res) ≡ begin g.d = omega (arith, g.begins, length_ordered key (keys v.res) s.n all, earlier_small key s.n g.d) in
        let x = below_skip g.d (keys v.res) g.low e in
        record {
          answer = rw (x, g.number, g.width);
          firsts = rw x g.firsts;
          counts = rw x g.counts;
          stored = rw x g.stored;
        }

    module _ {first count members : List ℕ} {at k w : ℕ} (e : ℕ) (g : Part first₀ count₀ members₀ first count members at k w) (h : at < s.n)
        (run : Run (λ i. key (number_at l i)) s.n at e) where
      -- the run's key
      abbrev c : ℕ
      c = runs.run_key key s.n (keys v.res) all l sorted.as_sorted at g.d e g.begins h run

      low_c : c < keys v.res
      low_c = runs.key_below key s.n (keys v.res) all l sorted.as_sorted at g.d e g.begins h run

      c_begins : at ≡ begin c
      c_begins = runs.run_begins key s.n (keys v.res) all l sorted.as_sorted at g.d e g.begins h run

      c_ends : e ≡ begin (suc c)
      c_ends = runs.run_ends key s.n (keys v.res) all l sorted.as_sorted at g.d e g.begins h run

      c_numbers : slice at e l ≡ keyed c
      c_numbers = runs.run_numbers key s.n (keys v.res) all l sorted.as_sorted at g.d e g.begins h run

      c_size : e - at ≡ length (keyed c)
      c_size = omega (arith, c_begins, c_ends, earlier_next key s.n c)

      c_skip : groups_below s v c ≡ groups_below s v g.d
      c_skip =
          below_skip g.d c (runs.reached key s.n (keys v.res) all l sorted.as_sorted at g.d e g.begins h run) (sym c_begins ∙ g.begins)

      pub part_dropped : dropped s (slice at e l) ≡ true → Part first₀ count₀ members₀ first count members e k w
      part_dropped t =
          let x = below_dropped c (rw c_numbers at t) ∙ c_skip in
          record {
            d = suc c;
            low = low_c;
            begins = c_ends;
            number = rw x g.number;
            width = rw x g.width;
            firsts = rw x g.firsts;
            counts = rw x g.counts;
            stored = rw x g.stored;
          }

      pub part_kept : dropped s (slice at e l) ≡ false → {first' count' members' : List ℕ} → first' ≡ set first k w → count' ≡ set count k (e - at)
          → members' ≡ sets members w (slice at e l) → Part first₀ count₀ members₀ first' count' members' e (k + 1) (w + (e - at))
      part_kept t p q o =
          let gs = groups_below s v g.d in
          let x : groups_below s v (suc c) ≡ gs ++ (keyed c ∷ []) = below_kept c (rw c_numbers at t) ∙ rw c_skip in
          let b : length gs < s.n = omega (arith, below_small g.d, g.begins) in
          record {
            d = suc c;
            low = low_c;
            begins = c_ends;
            number = rw (x, length-append gs (keyed c ∷ []), g.number);
            width = rw (x, joined_more gs (keyed c), length-append (joined gs) (keyed c), g.width, c_size);
            firsts = rw x (first_more gs (keyed c) first₀ (omega (arith, b, wide)) g.firsts g.number g.width p);
            counts = rw x (count_more gs (keyed c) count₀ (omega (arith, b, long)) g.counts g.number c_size q);
            stored = rw x (member_more gs (keyed c) members₀ g.stored g.width (o ∙ rw c_numbers));
          }
