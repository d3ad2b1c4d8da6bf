-- The columns of records, what a reset leaves of them, and that columns tell their records. Assumes nothing.
use mathlib.Core.Bool.{Bool, true, false, cond, ◌&&◌, and-eq-true_iff, true≢false}
use mathlib.Core.List.{List, [], ◌∷◌, ◌++◌, append-nil}
use mathlib.Core.Logic.{inl, inr}
use mathlib.Core.Path.{◌≡◌, refl, sym, ap, ◌∙◌}
use Prim.Native.Nat.{ℕ, zero, suc, ◌+◌, ◌*◌, ◌<◌, ◌≤◌}
use native.Mathlib.Omega.{arith}
use borrow.Author.Tests.{lt-leb, leb-false, lt-ltb, ltb-true, eqb-true}
use lib.Dec.{leb, ltb, eqb}
use lib.Ieee.{Float}
use lib.ListN.{length, set, drop, replicate, drop_of_length-le}
use Rattle.float.specs.Arithmetic.{0f}
use Rattle.float.proofs.Numbers.{here_or_on}
use Rattle.vector.specs.declared.Vec3.{Vec3}
use Rattle.vector.specs.Flat.{vec_at, components, rows, replaced, written, filled}
use Rattle.vector.specs.Vector.{zero_vec}
use Rattle.vector.proofs.Replaced.{filled_none, filled_put, length_filled, written_there}
use Rattle.accept.specs.Limits.{max_surfels}
use Rattle.std.specs.Prelude.{Result, Ok, Err}
use Rattle.std.proofs.lemmas.List.{replicate-append-replicate}
use Rattle.accept.specs.declared.refusal.Refusal.{Refusal}
use Rattle.accept.specs.declared.refusal.Refusal.TheVariants.{Count}
use Rattle.accept.specs.Refusal.{checked, number_of, refusal_number}
use Rattle.reset.specs.Resetting.{check, reset_answer}
use Rattle.reset.proofs.Stored.{reset_lengths}
use Rattle.records.specs.declared.Light.{Light}
use Rattle.records.specs.Columns.{column, directs, irrs, rads, left_in, reset_columns}
use Rattle.records.specs.Needs.{check_for, light_at}

three_more : (n : ℕ) → 3 * suc n ≡ suc (suc (suc (3 * n)))
three_more n = omega arith

module _ (part : Light → Vec3) where
  pub length_column : (rs : List Light) → length (column part rs) ≡ 3 * length rs
  unfolding column
  length_column [] = refl
  length_column (r ∷ rs) = let e = length_column rs in omega (arith, e)

  column-append : (xs ys : List Light) → column part (xs ++ ys) ≡ column part xs ++ column part ys
  unfolding column
  column-append [] ys = refl
  column-append (x ∷ xs) ys = rw (column-append xs ys)

  column-drop : (n : ℕ) (rs : List Light) → column part (drop n rs) ≡ drop (3 * n) (column part rs)
  unfolding column
  column-drop zero rs = refl
  column-drop (suc n) [] = rw (three_more n)
  column-drop (suc n) (r ∷ rs) = rw (three_more n) (column-drop n rs)

  column_rows : (f : ℕ → Light) (n : ℕ) → column part (rows (λ i. f i ∷ []) n) ≡ rows (λ i. components (part (f i))) n
  unfolding rows column
  column_rows f zero = refl
  column_rows f (suc n) = rw (column-append (rows (λ i. f i ∷ []) n) (f n ∷ []), column_rows f n)

  -- records put in front are their vectors written in front
  pub column_filled : (f : ℕ → Light) (n : ℕ) (rs : List Light) → column part (filled f n rs) ≡ written (λ i. part (f i)) n (column part rs)
  unfolding replaced
  column_filled f n rs = let e : 1 * n ≡ n = omega arith in rw (column-append (rows (λ i. f i ∷ []) n) (drop (1 * n) rs), column_rows f n, e, column-drop n rs)

-- n vectors of light, written over a list of n vectors, are that light
over_all : (light l : List Float) (n : ℕ) → length light ≡ 3 * n → length l ≡ 3 * n → written (vec_at light) n l ≡ light
unfolding replaced
over_all light l n p q =
    ap (λ (d : List Float). rows (λ i. components (vec_at light i)) n ++ d) (drop_of_length-le l {i = 3 * n} (omega arith) ∙ sym (drop_of_length-le light {i = 3 * n} (omega arith)))
    ∙ written_there (vec_at light) n light (omega arith) (λ i h. refl)

-- n vectors of zeros are 3 n zeros
zero_rows : (n : ℕ) → rows (λ i. components zero_vec) n ≡ replicate (3 * n) 0f
unfolding rows
zero_rows zero = refl
zero_rows (suc n) = let e : 3 * suc n ≡ 3 * n + 3 = omega arith in rw (e, zero_rows n) (replicate-append-replicate (3 * n) 3 0f)

zeros_over : (l : List Float) (n : ℕ) → length l ≡ 3 * n → written (λ i. zero_vec) n l ≡ replicate (3 * n) 0f
unfolding replaced
zeros_over l n h = rw (drop_of_length-le l {i = 3 * n} (omega arith)) (append-nil (rows (λ i. components zero_vec) n) ∙ zero_rows n)

-- ---- a reset

-- more records than the most surfels are refused with 2, whatever the light is
pub refused_two : (light : List Float) (n : ℕ) → max_surfels < n → check_for light n ≡ Err Count
unfolding check_for check checked
refused_two light n h = rw (lt-leb (3 * n) (3 * max_surfels) (omega arith), never_after (leb (length light) (3 * max_surfels)))
  where
    never_after : (a : Bool) → (a && false) ≡ false
    never_after true = refl
    never_after false = refl

-- so a count that is tested before them refuses as they do
pub refused_first : (light : List Float) (n : ℕ) {refusal : Refusal}
    → ◌≡◌ {A = Result Unit Refusal} (cond (leb n max_surfels) (Ok tt) (Err Count)) (Err refusal) → Err refusal ≡ check_for light n
refused_first light n {refusal} h = by_test (leb n max_surfels) refl h
  where
    by_test : (b : Bool) → leb n max_surfels ≡ b → ◌≡◌ {A = Result Unit Refusal} (cond b (Ok tt) (Err Count)) (Err refusal) → Err refusal ≡ check_for light n
    by_test true e h = cc
    by_test false e h = sym h ∙ sym (refused_two light n (leb-false n max_surfels e))

-- the records when the first i are set
unfoldable pub set_to : List Float → ℕ → List Light → List Light
set_to light i rs = filled (light_at light) i rs

pub set_none : (light : List Float) (rs : List Light) → rs ≡ set_to light 0 rs
unfolding set_to
set_none light rs = filled_none (light_at light) rs

pub set-length : (light : List Float) (i : ℕ) (rs : List Light) → i ≤ length rs → length (set_to light i rs) ≡ length rs
unfolding set_to
set-length light i rs h = length_filled (light_at light) i rs h

pub set_more : (light : List Float) (i : ℕ) (rs : List Light) → i < length rs → set (set_to light i rs) i (light_at light i) ≡ set_to light (i + 1) rs
unfolding set_to
set_more light i rs h = filled_put (light_at light) i rs refl h refl refl

-- how many of n records are set, where a reset of them answers so
abbrev pub set_count : Result Unit Refusal → ℕ → ℕ
set_count (Ok u) n = n
set_count (Err refusal) n = 0

-- going over them one by one, as long as none is refused, one more is set
pub test_more : (answer : Result Unit Refusal) (n i : ℕ) → (ltb i n && eqb (refusal_number answer) 0) ≡ true → i < set_count answer n
test_more (Ok u) n i e = ltb-true i n ((and-eq-true_iff (ltb i n) true).0 e).0
test_more (Err refusal) n i e = absurd (above refusal (eqb-true (number_of refusal) 0 ((and-eq-true_iff (ltb i n) (eqb (number_of refusal) 0)).0 e).1))
  where
    above : (r : Refusal) → number_of r ≡ 0 → ⊥
    above r h = absurd (grind arith)

-- and where that ends, all are
pub test_last : (answer : Result Unit Refusal) (n i : ℕ) → i ≤ set_count answer n → (ltb i n && eqb (refusal_number answer) 0) ≡ false → i ≡ set_count answer n
test_last (Ok u) n i h e = elim (here_or_on i n) [
  | inl l ↦ absurd (true≢false (sym (rw (lt-ltb i n l)) ∙ e))
  | inr g ↦ omega arith
]
test_last (Err refusal) n i h e = omega arith

module _ (light : List Float) (rs : List Light) where
  -- a reset of them that is refused leaves them
  pub set_refused : {refusal : Refusal} → check_for light (length rs) ≡ Err refusal → left_in (Err refusal) rs ≡ reset_columns light rs
  unfolding check_for reset_answer
  set_refused e =
      rw (length_column (λ r. r.direct) rs, length_column (λ r. r.irr) rs, length_column (λ r. r.rad) rs, e)

  -- once the last is set, they are what a reset of their columns leaves where none is refused
  pub set_done : check_for light (length rs) ≡ Ok tt → left_in (Ok tt) (set_to light (length rs) rs) ≡ reset_columns light rs
  unfolding check_for reset_answer set_to light_at
  set_done e =
      let w = reset_lengths light (3 * length rs) (3 * length rs) (3 * length rs) e in
      let d = length_column (λ r. r.direct) rs in
      let i = length_column (λ r. r.irr) rs in
      let q = length_column (λ r. r.rad) rs in
      let n = length rs in
      rw (
        column_filled (λ r. r.direct) (light_at light) n rs,
        column_filled (λ r. r.irr) (light_at light) n rs,
        column_filled (λ r. r.rad) (light_at light) n rs,
        over_all light (directs rs) n (sym w.0) d,
        zeros_over (irrs rs) n i,
        over_all light (rads rs) n (sym w.0) q,
        d,
        i,
        q,
        e,
      )

  set_by : (answer : Result Unit Refusal) → check_for light (length rs) ≡ answer → left_in answer (set_to light (set_count answer (length rs)) rs) ≡ reset_columns light rs
  set_by (Ok tt) e = set_done e
  set_by (Err refusal) e = rw (← set_none light rs) (set_refused e)

  -- so as many as the answer tells, once set, are what a reset of their columns leaves, refused or not
  pub all_set : left_in (check_for light (length rs)) (set_to light (set_count (check_for light (length rs)) (length rs)) rs) ≡ reset_columns light rs
  all_set = set_by (check_for light (length rs)) refl

-- ---- columns tell their records

abbrev light_by : Vec3 → Vec3 → Vec3 → Light
light_by d i r = record { direct = d; irr = i; rad = r }

same_light : {a b c x y z : Vec3} → a ≡ x → b ≡ y → c ≡ z → light_by a b c ≡ light_by x y z
same_light p q r = rw (p, q, r)

-- records with the same three columns are the same: what the contract says of the columns fixes every record
pub columns_tell : (xs ys : List Light) → directs xs ≡ directs ys → irrs xs ≡ irrs ys → rads xs ≡ rads ys → xs ≡ ys
unfolding column
columns_tell [] [] p q r = refl
columns_tell [] (y ∷ ys) p q r = let e = ap length p in absurd (omega arith)
columns_tell (x ∷ xs) [] p q r = let e = ap length p in absurd (omega arith)
columns_tell (x ∷ xs) (y ∷ ys) p q r =
    let first : (c d : List Float) → c ≡ d → vec_at c 0 ≡ vec_at d 0 = λ c d e. ap (λ (l : List Float). vec_at l 0) e in
    let rest : (c d : List Float) → c ≡ d → drop 3 c ≡ drop 3 d = λ c d e. ap (drop 3) e in
    let head : x ≡ y = same_light (first _ _ p) (first _ _ q) (first _ _ r) in
    let tail : xs ≡ ys = columns_tell xs ys (rest _ _ p) (rest _ _ q) (rest _ _ r) in
    rw (head, tail)
