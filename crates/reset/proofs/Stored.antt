-- What a reset that is not refused was handed. Assumes nothing.
use mathlib.Core.List.{List, [], ◌∷◌}
use mathlib.Core.Path.{◌≡◌, sym, ◌∙◌}
use Prim.Native.Nat.{ℕ, ◌%◌, ◌<◌}
use native.Mathlib.Omega.{arith}
use lib.Dec.{eqb}
use lib.Ieee.{Float}
use lib.ListN.{length}
use borrow.Author.Tests.{eqb-true}
use Rattle.std.specs.Prelude.{Ok, replicate}
use Rattle.std.proofs.lemmas.List.{ext_get_or, get_or-replicate, length-replicate}
use Rattle.accept.proofs.Every.{conj_each}
use Rattle.accept.proofs.Refused.{none_refused}
use Rattle.float.specs.Arithmetic.{0f}
use Rattle.float.specs.Column.{float_at}
use Rattle.vector.specs.Flat.{filled}
use Rattle.vector.proofs.Replaced.{filled_whole, length_filled, at_filled}
use Rattle.reset.specs.Resetting.{check, reset_answer}

-- the lists of a reset that is not refused have the length of the light
pub reset_lengths : (light : List Float) (direct irr rad : ℕ) → check light direct irr rad ≡ Ok tt
    → (direct ≡ length light) × (irr ≡ length light) × (rad ≡ length light)
unfolding check
reset_lengths light direct irr rad e =
    let n = length light in
    let t = none_refused _ e in
    let h = conj_each (eqb (n % 3) 0 ∷ eqb direct n ∷ eqb irr n ∷ eqb rad n ∷ []) t.1.0 in
    (eqb-true _ _ h.1.0, eqb-true _ _ h.1.1.0, eqb-true _ _ h.1.1.1.0)

-- what it leaves: direct and rad are the light, irr zero
pub reset_left : (light direct irr rad : List Float) → check light (length direct) (length irr) (length rad) ≡ Ok tt
    → reset_answer light direct irr rad ≡ (Ok tt, light, replicate (length irr) 0f, light)
unfolding reset_answer
reset_left light direct irr rad e = rw e

-- zeros in every place of a list are so many zeros
zeros_whole : (l : List Float) → filled (λ k. 0f) (length l) l ≡ replicate (length l) 0f
zeros_whole l =
    let same : length (filled (λ k. 0f) (length l) l) ≡ length (replicate (length l) 0f) = length_filled (λ k. 0f) (length l) l (omega arith) ∙ sym (length-replicate (length l) 0f) in
    let few : length (filled (λ k. 0f) (length l) l) ≡ length l = length_filled (λ k. 0f) (length l) l (omega arith) in
    ext_get_or 0f (filled (λ k. 0f) (length l) l) (replicate (length l) 0f) same
    (λ i h. let w : i < length l = rw few at h in at_filled (λ k. 0f) (length l) i l 0f w ∙ sym (get_or-replicate (length l) i 0f 0f w))

-- lists that hold the light, zeros and the light, each in as many of its first places as the light has, are what it leaves
pub reset_done : (light direct irr rad : List Float) {d i r : List Float} → check light (length direct) (length irr) (length rad) ≡ Ok tt
    → d ≡ filled (float_at light) (length light) direct → i ≡ filled (λ k. 0f) (length light) irr → r ≡ filled (float_at light) (length light) rad
    → (Ok tt, d, i, r) ≡ reset_answer light direct irr rad
reset_done light direct irr rad e p q s =
    let w = reset_lengths light (length direct) (length irr) (length rad) e in
    rw (reset_left light direct irr rad e, p ∙ filled_whole light direct _ w.0, q, s ∙ filled_whole light rad _ w.2, ← w.1, zeros_whole irr)
