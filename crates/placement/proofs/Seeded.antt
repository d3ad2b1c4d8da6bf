-- The points kept of the first seeds, one seed more at a time, and what the loop over the seeds holds. Assumes nothing.
use mathlib.Core.Bool.{Bool, true, false, not}
use mathlib.Core.List.{List, [], ◌∷◌, ◌++◌}
use mathlib.Core.Logic.{◌⊎◌, inl, inr}
use mathlib.Core.Path.{◌≡◌, refl, sym, ap, ◌∙◌}
use Prim.Native.Nat.{ℕ, zero, suc, ◌+◌, ◌-◌, ◌*◌, ◌<◌, ◌≤◌, min}
use native.Mathlib.Nat.{add-zero, add-suc}
use native.Mathlib.Numerals.{add-one}
use native.Mathlib.Omega.{arith}
use borrow.Author.Tests.{lt-ltb, le-ltb}
use lib.Ieee.{Float}
use lib.ListN.{length, drop}
use Rattle.vector.specs.declared.Vec3.{Vec3}
use Rattle.vector.specs.Flat.{vec_at, put_at, written, filled}
use Rattle.vector.proofs.Replaced.{filled_past, written_none, written_put, written_same, at_written, length_filled}
use Rattle.vector.proofs.Stored.{past_later}
use Rattle.accept.proofs.Every.{every_same}
use Rattle.grid.specs.Cells.{cells}
use Rattle.tables.specs.Tables.{Scene}
use Rattle.std.specs.Prelude.{Option, Some, None}
use Rattle.seeds.specs.declared.Spacing.{Spacing}
use Rattle.seeds.specs.Seeds.{landed}
use Rattle.placement.specs.Kept.{dims_in, too_close, free, point_at, kept_with, kept, placed, seed_count}
use Rattle.placement.specs.Chains.{key_of, Chains, tried, points_left}
use Rattle.placement.specs.Needs.{Held}
use Rattle.placement.proofs.Chained.{chained_none}
use Rattle.placement.proofs.Points.{length_more, point_before, point_last}

-- scratch whose cells were emptied
module _ {s : Spacing} {target m : ℕ} {p : List Float} {head next l : List ℕ} (w : Held s target p head next) (k : m ≡ cells (dims_in s))
    (e : l ≡ filled (λ c. 0) (min m (length head)) head) where
  pub emptied : l ≡ filled (λ c. 0) (cells (dims_in s)) head
  emptied =
      let q : min m (length head) ≡ cells (dims_in s) = omega (arith, k, w.celled) in
      e ∙ ap (λ (n : ℕ). filled (λ c. 0) n head) q

  pub emptied_held : Held s target p l next
  emptied_held =
      let q : length l ≡ length head = ap length emptied ∙ length_filled (λ c. 0) (cells (dims_in s)) head w.celled in
      record { few = w.few; points = w.points; celled = omega (arith, q, w.celled); linked = w.linked }

  pub emptied_past : drop (cells (dims_in s)) l ≡ drop (cells (dims_in s)) head
  emptied_past = ap (drop (cells (dims_in s))) emptied ∙ filled_past (λ c. 0) (cells (dims_in s)) head

-- room is a matter of the first n points alone
pub free_same : (s : Spacing) (f g : ℕ → Vec3) (n : ℕ) (p : Vec3) → ((j : ℕ) → j < n → f j ≡ g j) → free s f n p ≡ free s g n p
unfolding free
free_same s f g n p h = every_same (λ j. not (too_close s p (f j))) (λ j. not (too_close s p (g j))) n (λ j k. ap (λ (v : Vec3). not (too_close s p v)) (h j k))

-- a list has the points, and a seed is tried
module _ (s : Spacing) (target : ℕ) (ps : List Vec3) (p₀ : List Float) {count : ℕ} {p : List Float} (e : count ≡ length ps) (few : count < target) (long : 3 * target ≤ length p₀)
    (f : p ≡ written (point_at ps) count p₀) where
  -- what the list has, and how many, after it
  pub record Stepped (qs : List Vec3) (r : ℕ) (q : List Float) : Type 0 where
    pub counted : r ≡ length qs
    pub few_still : r ≤ target
    pub stored : q ≡ written (point_at qs) r p₀

  -- nothing is kept
  same : Stepped ps count p
  same = record { counted = e; few_still = omega arith; stored = f }

  -- v is kept
  more : (v : Vec3) → Stepped (ps ++ (v ∷ [])) (count + 1) (put_at p count v)
  more v =
      let before : (j : ℕ) → j < count → point_at ps j ≡ point_at (ps ++ (v ∷ [])) j = λ j h. sym (point_before ps v j (omega arith)) in
      let last : v ≡ point_at (ps ++ (v ∷ [])) count = rw e (sym (point_last ps v)) in
      record {
        counted = rw (length_more ps v) (omega arith);
        few_still = omega arith;
        stored =
            written_put (point_at (ps ++ (v ∷ []))) count p₀ (f ∙ written_same (point_at ps) (point_at (ps ++ (v ∷ []))) count p₀ before) (omega arith) last refl;
      }

  -- there is room for the list as there is for the points
  room_as : (v : Vec3) → free s (vec_at p) count v ≡ free s (point_at ps) (length ps) v
  room_as v =
      free_same s (vec_at p) (point_at ps) count v (λ j h. ap (λ (l : List Float). vec_at l j) f ∙ at_written (point_at ps) count j p₀ h)
      ∙ ap (λ (n : ℕ). free s (point_at ps) n v) e

  pub stepped : (q : Option Vec3) → Stepped (kept_with s target ps q) (tried s count p q).0 (tried s count p q).1
  unfolding kept_with tried
  stepped None = same
  stepped (Some v) = by_test (free s (vec_at p) count v) refl
    where
      by_test : (t : Bool) → free s (vec_at p) count v ≡ t
          → Stepped (kept_with s target ps (Some v)) (tried s count p (Some v)).0 (tried s count p (Some v)).1
      by_test true g = rw (g, sym (room_as v) ∙ g, lt-ltb (length ps) target (omega arith)) (more v)
      by_test false g = rw (g, sym (room_as v) ∙ g, lt-ltb (length ps) target (omega arith)) same

module _ (scene : Scene) (s : Spacing) (target : ℕ) where
  abbrev keep : ℕ → List Vec3
  keep m = kept scene s target m

  -- where so many are kept as are asked for, no seed more is
  full_with : (ps : List Vec3) (q : Option Vec3) → target ≤ length ps → kept_with s target ps q ≡ ps
  unfolding kept_with
  full_with ps None h = refl
  full_with ps (Some p) h = rw (le-ltb (length ps) target h)

  full_on : (m k : ℕ) → target ≤ length (keep m) → keep (m + k) ≡ keep m
  unfolding kept
  full_on m zero h = rw (add-zero m)
  full_on m (suc k) h =
      let e = full_on m k h in
      rw (add-suc m k, e) (full_with (keep m) (landed scene s (suc (m + k))) h)

  pub full_stays : (m n : ℕ) → m ≤ n → target ≤ length (keep m) → keep n ≡ keep m
  full_stays m n l h =
      let e : n ≡ m + (n - m) = omega arith in
      ap keep e ∙ full_on m (n - m) h

  -- p has the points kept of the first i seeds, and they are chained
  pub record SoFar (p₀ : List Float) (head₀ next₀ : List ℕ) (i count : ℕ) (p : List Float) (head next : List ℕ) : Type 0 where
    pub counted : count ≡ length (keep i)
    pub few : count ≤ target
    pub stored : p ≡ written (point_at (keep i)) count p₀
    pub long : length p ≡ length p₀
    pub celled : length head ≡ length head₀
    pub linked : length next ≡ length next₀
    pub chains : Chains s count p head next
    pub head_past : drop (cells (dims_in s)) head ≡ drop (cells (dims_in s)) head₀
    pub next_past : drop target next ≡ drop target next₀

  module _ {p₀ : List Float} {head₀ next₀ : List ℕ} (w : Held s target p₀ head₀ next₀) where
    -- no seed is tried yet, and every cell is empty
    pub none_yet : (l : List ℕ) → head₀ ≡ filled (λ c. 0) (cells (dims_in s)) l → SoFar p₀ head₀ next₀ 0 0 p₀ head₀ next₀
    unfolding kept
    none_yet l e =
        record {
          counted = refl;
          few = omega arith;
          stored = written_none (point_at []) p₀;
          long = refl;
          celled = refl;
          linked = refl;
          chains =
              record {
                points = omega arith;
                celled = w.celled;
                linked = omega arith;
                chained = chained_none (key_of s (vec_at p₀)) (cells (dims_in s)) l next₀ e;
              };
          head_past = refl;
          next_past = refl;
        }

    module _ {i count : ℕ} {p : List Float} {head next : List ℕ} (h : SoFar p₀ head₀ next₀ i count p head next) where
      -- the next seed tried, while fewer are kept than are asked for
      pub one_more : {r : ℕ} {q : List Float} {head' next' : List ℕ} → count < target
          → (r, q) ≡ tried s count p (landed scene s (i + 1)) → Chains s r q head' next' → length q ≡ length p → length head' ≡ length head → length next' ≡ length next
          → drop (cells (dims_in s)) head' ≡ drop (cells (dims_in s)) head → drop (count + 1) next' ≡ drop (count + 1) next
          → SoFar p₀ head₀ next₀ (i + 1) r q head' next'
      unfolding kept
      one_more {r} {q} {head'} {next'} l e c lp lh ln hp np =
          let t = stepped s target (keep i) p₀ h.counted l w.points h.stored (landed scene s (suc i)) in
          let n : i + 1 ≡ suc i = add-one i in
          let f : (r, q) ≡ tried s count p (landed scene s (suc i)) = rw n at e in
          let t₀ : r ≡ (tried s count p (landed scene s (suc i))).0 = ap (λ (x : ℕ × List Float). x.0) f in
          let t₁ : q ≡ (tried s count p (landed scene s (suc i))).1 = ap (λ (x : ℕ × List Float). x.1) f in
          rw n
          (record {
            counted = t₀ ∙ t.counted;
            few = omega (arith, t₀, t.few_still);
            stored = t₁ ∙ t.stored ∙ ap (λ (k : ℕ). written (point_at (keep (suc i))) k p₀) (sym t₀);
            long = lp ∙ h.long;
            celled = lh ∙ h.celled;
            linked = ln ∙ h.linked;
            chains = c;
            head_past = hp ∙ h.head_past;
            next_past = past_later (count + 1) target next' next (omega arith) np ∙ h.next_past;
          })

      -- all seeds tried, or so many kept as are asked for
      pub all_done : seed_count target ≤ i ⊎ (count ≡ target) → i ≤ seed_count target → (count, p) ≡ points_left scene s target p₀
      unfolding points_left placed
      all_done d l = rw (h.stored, h.counted, all d)
        where
          all : seed_count target ≤ i ⊎ (count ≡ target) → keep i ≡ keep (seed_count target)
          all (inl g) = let q : i ≡ seed_count target = omega arith in ap keep q
          all (inr g) = sym (full_stays i (seed_count target) l (omega (arith, h.counted)))
