-- What a line's name is good for: a line has the name p just where it starts with p and a space. Assumes nothing.
use Rattle.std.proofs.Common.{◌≡◌, ℕ, ◌+◌, ◌<◌, ◌≤◌, List, [], ◌∷◌, ◌++◌, length, take, Bool, true, false, refl, subst, ◌⊎◌, inl, inr, arith}
use Rattle.std.specs.Prelude.{eqb, ◌||◌, ◌&&◌, ◌↔◌}
use Rattle.std.proofs.lemmas.Grind.{common_steps}
use Rattle.std.proofs.lemmas.Bool.{eqb-true, eq-eqb, lt-ltb, le-ltb, cases_lt}
use Rattle.std.proofs.Math.Numerals.{one-add}
use Rattle.std.specs.List.{position_or_len, list_any}
use Rattle.replay.specs.Lines.{starts, name_of}

abbrev is_space : ℕ → Bool
is_space b = eqb b 32

both : (s t : Bool) → (s && t) ≡ true → (s ≡ true) × (t ≡ true)
both true true e = (refl, refl)
both true false e = absurd (grind (arith, common_steps))
both false t e = absurd (grind (arith, common_steps))

neither : (s t : Bool) → (s || t) ≡ false → (s ≡ false) × (t ≡ false)
neither false t e = (refl, e)
neither true t e = absurd (grind (arith, common_steps))

-- the first space of a line that starts with p and a space stands after p
after : (p l : List ℕ) → list_any is_space p ≡ false → starts (p ++ (32 ∷ [])) l ≡ true
    → (position_or_len is_space l ≡ length p) × (length p < length l) × (take (length p) l ≡ p)
unfolding starts
after [] [] h e = absurd (grind (arith, common_steps))
after [] (b ∷ l) h e =
    let is : eqb b 32 ≡ true = (both _ _ e).0 in
    (rw is refl, omega arith, refl)
after (a ∷ p) [] h e = absurd (grind (arith, common_steps))
after (a ∷ p) (b ∷ l) h e =
    let here = both (eqb b a) (starts (p ++ (32 ∷ [])) l) e in
    let none = neither (eqb a 32) (list_any is_space p) h in
    let same : b ≡ a = eqb-true b a here.0 in
    let r : (position_or_len is_space l ≡ length p) × (length p < length l) × (take (length p) l ≡ p) = after p l none.1 here.1 in
    let other : eqb b 32 ≡ false = rw same none.0 in
    (rw other (omega (arith, r.0)), omega (arith, r.1), rw (same, r.2) refl)

-- a line starts with what stands before its first space, and a space
at_space : (b : ℕ) (l : List ℕ) → eqb b 32 ≡ true → starts (32 ∷ []) (b ∷ l) ≡ true
unfolding starts
at_space b l e = rw e refl

past : (b m : ℕ) (l : List ℕ) → starts (take m l ++ (32 ∷ [])) l ≡ true → starts (take (1 + m) (b ∷ l) ++ (32 ∷ [])) (b ∷ l) ≡ true
unfolding starts
past b m l e = rw (one-add m) (rw (eq-eqb b b refl) e)

before : (l : List ℕ) → position_or_len is_space l < length l → starts (take (position_or_len is_space l) l ++ (32 ∷ [])) l ≡ true
before [] h = absurd (omega arith)
before (b ∷ l) h = go (eqb b 32) refl (before l)
  where
    go : (t : Bool) → eqb b 32 ≡ t
        → (position_or_len is_space l < length l → starts (take (position_or_len is_space l) l ++ (32 ∷ [])) l ≡ true)
        → starts (take (position_or_len is_space (b ∷ l)) (b ∷ l) ++ (32 ∷ [])) (b ∷ l) ≡ true
    go true e later = rw e (at_space b l e)
    go false e later =
        let h' : position_or_len is_space l < length l = grind (arith, common_steps) in
        rw e (past b (position_or_len is_space l) l (later h'))

-- a line's name is p, which has a byte and no space, just where the line starts with p and a space
pub named : (p l : List ℕ) → 0 < length p → list_any is_space p ≡ false → (name_of l ≡ p) ↔ (starts (p ++ (32 ∷ [])) l ≡ true)
named p l some h = (to (cases_lt (position_or_len is_space l) (length l)), from)
  where
    to : (position_or_len is_space l < length l) ⊎ (length l ≤ position_or_len is_space l) → name_of l ≡ p → starts (p ++ (32 ∷ [])) l ≡ true
    to (inl within) e = subst (λ q. starts (q ++ (32 ∷ [])) l ≡ true) (rw (lt-ltb _ _ within) at e) (before l within)
    to (inr none) e =
        let empty : [] ≡ p = rw (le-ltb _ _ none) at e in
        absurd (grind (arith, common_steps))

    from : starts (p ++ (32 ∷ [])) l ≡ true → name_of l ≡ p
    from e =
        let r = after p l h e in
        rw (r.0, lt-ltb (length p) (length l) r.1) r.2
