-- Chains through the points of a cell, from the last to the first: the search along one, and one point more. Assumes nothing.
use mathlib.Core.Bool.{Bool, true, false, cond, not, ◌&&◌}
use mathlib.Core.List.{List}
use mathlib.Core.Logic.{◌⊎◌, inl, inr}
use mathlib.Core.Path.{◌≡◌, refl, sym, ap, ◌∙◌}
use Prim.Native.Nat.{ℕ, zero, suc, ◌+◌, ◌-◌, ◌<◌, ◌≤◌}
use native.Mathlib.Nat.{eq-or-lt_of_le}
use native.Mathlib.Numerals.{add-one}
use native.Mathlib.Omega.{arith}
use borrow.Author.Tests.{eqb-true, eqb-false, eq-eqb, ne_eqb}
use lib.Dec.{eqb}
use lib.ListN.{length, set}
use lib.Seq.{get_or-set_same, get_or-set_other}
use Rattle.vector.specs.Flat.{filled}
use Rattle.vector.proofs.Replaced.{at_filled}
use Rattle.accept.specs.Every.{every}
use Rattle.accept.specs.Tables.{number_at}
use Rattle.placement.specs.Chains.{vacant, last, Chained}

module _ (key : ℕ → ℕ) where
  last_here : (c n : ℕ) → key n ≡ c → last key c (suc n) ≡ suc n
  unfolding last
  last_here c n e = rw (eq-eqb (key n) c e)

  last_other : (c n : ℕ) → (key n ≡ c → ⊥) → last key c (suc n) ≡ last key c n
  unfolding last
  last_other c n e = rw (ne_eqb (key n) c e)

  last_small : (c n : ℕ) → last key c n ≤ n
  unfolding last
  last_small c zero = omega arith
  last_small c (suc n) = by_test (eqb (key n) c) (last_small c n)
    where
      by_test : (t : Bool) → last key c n ≤ n → cond t (suc n) (last key c n) ≤ suc n
      by_test true l = omega arith
      by_test false l = omega arith

  -- the last point is its own last
  last_own : (c n : ℕ) → last key c (last key c n) ≡ last key c n
  unfolding last
  last_own c zero = refl
  last_own c (suc n) = by_test (eqb (key n) c) refl (last_own c n)
    where
      by_test : (t : Bool) → eqb (key n) c ≡ t → last key c (last key c n) ≡ last key c n
          → last key c (cond t (suc n) (last key c n)) ≡ cond t (suc n) (last key c n)
      by_test true e l = rw e
      by_test false e l = l

  own_key : (c j : ℕ) → last key c (suc j) ≡ suc j → key j ≡ c
  own_key c j e = by_test (eqb (key j) c) refl
    where
      by_test : (t : Bool) → eqb (key j) c ≡ t → key j ≡ c
      by_test true q = eqb-true (key j) c q
      by_test false q = absurd (omega (arith, last_small c j, last_other c j (eqb-false (key j) c q)))

  module _ (test : ℕ → Bool) where
    -- points after the last one of the cell don't count
    vacant_last : (c n : ℕ) → vacant key test c n ≡ vacant key test c (last key c n)
    unfolding vacant every last
    vacant_last c zero = refl
    vacant_last c (suc n) = by_test (eqb (key n) c) refl (vacant_last c n)
      where
        and_true : (b : Bool) → b && true ≡ b
        and_true true = refl
        and_true false = refl

        by_test : (t : Bool) → eqb (key n) c ≡ t → vacant key test c n ≡ vacant key test c (last key c n)
            → (vacant key test c n && not (t && test n)) ≡ vacant key test c (cond t (suc n) (last key c n))
        by_test true e l = rw e
        by_test false e l = and_true (vacant key test c n) ∙ l

    taken_here : (c j : ℕ) → key j ≡ c → test j ≡ true → vacant key test c (suc j) ≡ false
    unfolding vacant every
    taken_here c j e t = rw (eq-eqb (key j) c e, t) (none (vacant key test c j))
      where
        none : (b : Bool) → b && false ≡ false
        none true = refl
        none false = refl

    vacant_here : (c j : ℕ) → key j ≡ c → test j ≡ false → vacant key test c (suc j) ≡ vacant key test c j
    unfolding vacant every
    vacant_here c j e t = rw (eq-eqb (key j) c e, t) (all (vacant key test c j))
      where
        all : (b : Bool) → b && true ≡ b
        all true = refl
        all false = refl

    vacant_none : (c : ℕ) → vacant key test c 0 ≡ true
    unfolding vacant every
    vacant_none c = refl

  -- where a search stands: at point a - 1, or at the end with a ≡ 0; what is left decides the answer
  pub record Search (test : ℕ → Bool) (c count a : ℕ) : Type 0 where
    pub within : a ≤ count
    pub own : last key c a ≡ a
    pub left : vacant key test c count ≡ vacant key test c a

  module _ (test : ℕ → Bool) (c m count : ℕ) {head next : List ℕ} (w : Chained key m count head next) where
    pub search_begins : {a : ℕ} → c < m → a ≡ number_at head c → Search test c count a
    search_begins h e =
        rw (e, w.heads c h) (record { within = last_small c count; own = last_own c count; left = vacant_last test c count })

    module _ {a : ℕ} (s : Search test c count a) (p : 0 < a) where
      at_next : a ≡ suc (a - 1)
      at_next = omega arith

      at_key : key (a - 1) ≡ c
      at_key = own_key c (a - 1) (rw at_next at s.own)

      pub search_found : test (a - 1) ≡ true → vacant key test c count ≡ false
      search_found t = s.left ∙ ap (vacant key test c) at_next ∙ taken_here test c (a - 1) at_key t

      pub search_goes : {b : ℕ} → test (a - 1) ≡ false → b ≡ number_at next (a - 1) → Search test c count b × (b < a)
      search_goes t e =
          let f = e ∙ w.links (a - 1) (omega (arith, s.within)) ∙ ap (λ (k : ℕ). last key k (a - 1)) at_key in (
            rw f
                (record {
                  within = omega (arith, last_small c (a - 1), s.within);
                  own = last_own c (a - 1);
                  left = s.left ∙ ap (vacant key test c) at_next ∙ vacant_here test c (a - 1) at_key t ∙ vacant_last test c (a - 1);
                }),
            omega (arith, last_small c (a - 1), f),
          )

    pub search_ends : {a : ℕ} → Search test c count a → a ≡ 0 → vacant key test c count ≡ true
    search_ends s e = s.left ∙ ap (vacant key test c) e ∙ vacant_none test c

last_same : (f g : ℕ → ℕ) (c n : ℕ) → ((j : ℕ) → j < n → f j ≡ g j) → last f c n ≡ last g c n
unfolding last
last_same f g c zero h = refl
last_same f g c (suc n) h = rw (last_same f g c n (λ j k. h j (omega arith)), h n (omega arith))

-- no point is kept yet
pub chained_none : (key : ℕ → ℕ) (m : ℕ) (l next : List ℕ) {head : List ℕ} → head ≡ filled (λ c. 0) m l → Chained key m 0 head next
unfolding last
chained_none key m l next e =
    record { heads = λ c h. rw (e, at_filled (λ c. 0) m c l 0 h); links = λ j h. absurd (omega arith) }

-- chains are those of any keys that agree
pub chained_same : (f g : ℕ → ℕ) (m count : ℕ) {head next : List ℕ} → ((j : ℕ) → j < count → f j ≡ g j) → Chained f m count head next → Chained g m count head next
chained_same f g m count same w =
    record {
      heads = λ c h. w.heads c h ∙ last_same f g c count same;
      links = λ j h. w.links j h ∙ last_same f g (f j) j (λ i r. same i (omega arith)) ∙ ap (λ (k : ℕ). last g k j) (same j h);
    }

-- one point more
module _ (key : ℕ → ℕ) (m count : ℕ) {head next head' next' : List ℕ} {c : ℕ} (w : Chained key m count head next)
    (wide : m ≤ length head) (long : count < length next) (k : c ≡ key count) (h : c < m)
    (p : head' ≡ set head c (count + 1)) (q : next' ≡ set next count (number_at head c)) where
  pub chained_more : Chained key m (count + 1) head' next'
  chained_more = record { heads = λ d l. new_head d l (eqb d c) refl; links = λ j l. new_link j (eq-or-lt_of_le {n = j} {m = count} (omega arith)) }
    where
      new_head : (d : ℕ) → d < m → (t : Bool) → eqb d c ≡ t → number_at head' d ≡ last key d (count + 1)
      new_head d l true e =
          let o = eqb-true d c e in
          rw (p, o, get_or-set_same head c (count + 1) 0 (omega arith), add-one count) (sym (last_here key c count (sym k)))
      new_head d l false e =
          let o = eqb-false d c e in
          rw (p, get_or-set_other head c d (count + 1) 0 o, w.heads d l, add-one count)
          (sym (last_other key d count (λ z. o (sym z ∙ sym k))))

      new_link : (j : ℕ) → (j ≡ count) ⊎ (j < count) → number_at next' j ≡ last key (key j) j
      new_link j (inl e) = rw (q, e, get_or-set_same next count (number_at head c) 0 long, w.heads c h, k)
      new_link j (inr l) = rw (q, get_or-set_other next count j (number_at head c) 0 (λ z. omega arith), w.links j l)
