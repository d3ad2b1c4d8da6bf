-- A text cut into lines. Assumes nothing.
use Rattle.std.proofs.Common.{◌≡◌, ℕ, suc, ◌+◌, ◌≤◌, List, [], ◌∷◌, length, take, drop, Bool, true, false, not, cond, refl, ap, arith, ◌-◌, ◌<◌, length-drop, drop-drop}
use Rattle.std.specs.Prelude.{nat_lt, eqb}
use Rattle.std.proofs.lemmas.Grind.{common_steps}
use Rattle.std.specs.List.{position_or_len, slice_range}
use Rattle.replay.specs.Lines.{line_length, line_end, lines_of, with_first}

-- a line ends after its first newline, or with the text
one_more : (t : Bool) (m n k : ℕ) → k ≡ cond (nat_lt m n) (m + 1) n
    → cond t 1 (suc k) ≡ cond (nat_lt (cond (not t) (1 + m) 0) (suc n)) (cond (not t) (1 + m) 0 + 1) (suc n)
one_more true m n k e = grind (arith, common_steps)
one_more false m n k e = grind (arith, common_steps)

pub length_is : (l : List ℕ) → line_length l ≡ cond (nat_lt (position_or_len (λ b. eqb b 10) l) (length l)) (position_or_len (λ b. eqb b 10) l + 1) (length l)
unfolding line_length
length_is [] = refl
length_is (b ∷ l) = one_more (eqb b 10) (position_or_len (λ b. eqb b 10) l) (length l) (line_length l) (length_is l)

-- a line lies within the text
pub within : (l : List ℕ) → line_length l ≤ length l
unfolding line_length
within [] = omega arith
within (b ∷ l) = go (eqb b 10) (within l)
  where
    go : (t : Bool) → line_length l ≤ length l → cond t 1 (suc (line_length l)) ≤ suc (length l)
    go true h = omega arith
    go false h = omega arith

-- the first line, and those after it
first_line : (b : ℕ) (l : List ℕ) → lines_of (b ∷ l) ≡ take (line_length (b ∷ l)) (b ∷ l) ∷ lines_of (drop (line_length (b ∷ l)) (b ∷ l))
unfolding line_length lines_of with_first
first_line b [] = go (eqb b 10)
  where
    go : (t : Bool) → cond t ((b ∷ []) ∷ []) ((b ∷ []) ∷ []) ≡ take (cond t 1 1) (b ∷ []) ∷ lines_of (drop (cond t 1 1) (b ∷ []))
    go true = refl
    go false = refl
first_line b (c ∷ l) = go (eqb b 10) (first_line c l)
  where
    n : ℕ
    n = line_length (c ∷ l)

    go : (t : Bool) → lines_of (c ∷ l) ≡ take n (c ∷ l) ∷ lines_of (drop n (c ∷ l))
        → cond t ((b ∷ []) ∷ lines_of (c ∷ l)) (with_first b (lines_of (c ∷ l))) ≡ take (cond t 1 (suc n)) (b ∷ c ∷ l) ∷ lines_of (drop (cond t 1 (suc n)) (b ∷ c ∷ l))
    go true e = refl
    go false e = ap (with_first b) e

pub first_of : (l : List ℕ) → eqb (length l) 0 ≡ false → lines_of l ≡ take (line_length l) l ∷ lines_of (drop (line_length l) l)
first_of [] h = grind arith
first_of (b ∷ l) h = first_line b l

-- an empty text has no line
pub no_line : (l : List ℕ) → eqb (length l) 0 ≡ true → lines_of l ≡ []
unfolding lines_of
no_line [] h = refl
no_line (b ∷ l) h = grind arith

-- a line that starts within the text has a byte, and ends within it
some : (l : List ℕ) → 0 < length l → 1 ≤ line_length l
unfolding line_length
some [] h = absurd (omega arith)
some (b ∷ l) h = go (eqb b 10)
  where
    go : (t : Bool) → 1 ≤ cond t 1 (suc (line_length l))
    go true = omega arith
    go false = omega arith

pub end_after : (l : List ℕ) (at : ℕ) → at < length l → (at < line_end l at) × (line_end l at ≤ length l)
end_after l at h =
    let left : length (drop at l) ≡ length l - at = length-drop at l in
    let more : 1 ≤ line_length (drop at l) = some (drop at l) (omega (arith, left)) in
    let most : line_length (drop at l) ≤ length l - at = omega (arith, left, within (drop at l)) in
    (omega arith, omega arith)

-- the lines from its start on: it, and those from its end on
pub line_at : (l : List ℕ) (at : ℕ) → at < length l → lines_of (drop at l) ≡ slice_range l at (line_end l at) ∷ lines_of (drop (line_end l at) l)
line_at l at h =
    let n : ℕ = line_length (drop at l) in
    let left : length (drop at l) ≡ length l - at = length-drop at l in
    let more : eqb (length (drop at l)) 0 ≡ false = grind (arith, common_steps) in
    let span : (at + n) - at ≡ n = omega arith in
    rw (span, ← drop-drop n at l) (first_of (drop at l) more)
