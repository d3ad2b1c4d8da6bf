-- A list written from two places on at once, the front and the middle: what the loop over the rows keeps, and where it ends. Assumes nothing.
use mathlib.Core.Bool.{Bool, true, false}
use mathlib.Core.List.{List, ◌++◌}
use mathlib.Core.Path.{◌≡◌, refl, sym, ap, subst, ◌∙◌}
use Prim.Native.Nat.{ℕ, ◌+◌, ◌-◌, ◌*◌, ◌<◌, ◌≤◌}
use native.Mathlib.Omega.{arith}
use lib.Dec.{leb}
use lib.Ieee.{Float}
use lib.ListN.{length, drop}
use lib.Seq.{length-sets}
use borrow.Author.Count.{below_more}
use borrow.Author.Tests.{leb-true, leb-false}
use Rattle.vector.specs.declared.Vec3.{Vec3}
use Rattle.vector.specs.Flat.{vec_at, put_at, components, rows, replaced, written}
use Rattle.vector.proofs.Puts.{at_put, put_holds, past_put}
use Rattle.vector.proofs.Replaced.{written_there}

-- of n vectors, l has i from the front on and i from the middle on as g says; what lies past them is as in l₀
pub record Fronts (g : ℕ → Vec3) (n middle i : ℕ) (l₀ l : List Float) : Type 0 where
  pub front : (j : ℕ) → j < i → vec_at l j ≡ g j
  pub back : (j : ℕ) → j < i → vec_at l (middle + j) ≡ g (middle + j)
  pub past : drop (3 * n) l ≡ drop (3 * n) l₀
  pub kept : length l ≡ length l₀

module _ (g : ℕ → Vec3) (n middle : ℕ) (l₀ : List Float) where
  -- v is stored next from the front on, and then w from the middle on
  pub fronts_more : (i : ℕ) {l d e : List Float} {v w : Vec3} → Fronts g n middle i l₀ l → i < n → middle + i < n → 3 * n ≤ length l₀
      → v ≡ g i → w ≡ g (middle + i) → d ≡ put_at l i v → e ≡ put_at d (middle + i) w → Fronts g n middle (i + 1) l₀ e
  fronts_more i {l} {d} {e} {v} {w} s h k fits p q r t =
      let k' = middle + i in
      let first = put_at l i (g i) in
      let both = put_at first k' (g k') in
      let is : both ≡ e = sym (rw (t, r, p, q)) in
      let len : length first ≡ length l = length-sets l (3 * i) (components (g i)) in
      let here : 3 * i + 2 < length l = omega (arith, s.kept) in
      let there : 3 * k' + 2 < length first = omega (arith, s.kept) in
      let held : (j : ℕ) → vec_at l j ≡ g j → vec_at both j ≡ g j = λ j x. put_holds g first k' j there (put_holds g l i j here x) in
      subst (Fronts g n middle (i + 1) l₀) is
      (record {
        front = below_more (λ j. vec_at both j ≡ g j) i (λ j x. held j (s.front j x)) (put_holds g first k' i there (at_put l i (g i) here));
        back = below_more (λ j. vec_at both (middle + j) ≡ g (middle + j)) i (λ j x. held (middle + j) (s.back j x)) (at_put first k' (g k') there);
        past = past_put n k' first (g k') k ∙ past_put n i l (g i) h ∙ s.past;
        kept = length-sets first (3 * k') (components (g k')) ∙ len ∙ s.kept;
      })

  -- vectors written into lists that agree past them
  written_agree : (l m : List Float) → drop (3 * n) l ≡ drop (3 * n) m → written g n l ≡ written g n m
  unfolding replaced
  written_agree l m e = ap (λ (d : List Float). rows (λ i. components (g i)) n ++ d) e

  -- once the two have met, each vector is written: by whether it stands from the middle on
  met_by : (i : ℕ) {l : List Float} → Fronts g n middle i l₀ l → middle ≤ i → n ≤ middle + i → (j : ℕ) → j < n → (b : Bool) → leb middle j ≡ b → vec_at l j ≡ g j
  met_by i {l} s met all j h true e =
      let le = leb-true middle j e in
      let f : middle + (j - middle) ≡ j = omega (arith, le) in
      subst (λ (k : ℕ). vec_at l k ≡ g k) f (s.back (j - middle) (omega (arith, le)))
  met_by i s met all j h false e = s.front j (omega (arith, leb-false middle j e))

  -- so that all n are
  pub fronts_end : (i : ℕ) {l : List Float} → Fronts g n middle i l₀ l → middle ≤ i → n ≤ middle + i → 3 * n ≤ length l₀ → l ≡ written g n l₀
  fronts_end i {l} s met all fits =
      sym (written_there g n l (omega (arith, s.kept)) (λ j h. met_by i s met all j h (leb middle j) refl)) ∙ written_agree l l₀ s.past
