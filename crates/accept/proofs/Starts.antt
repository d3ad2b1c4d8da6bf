-- What starts that never fall, and links that ascend in each row, say of their numbers. Assumes nothing.
use mathlib.Core.Bool.{true, and-eq-true_iff}
use mathlib.Core.List.{List, [], ◌∷◌}
use mathlib.Core.Logic.{⊎_elim}
use mathlib.Core.Path.{◌≡◌}
use Prim.Native.Nat.{ℕ, zero, suc, ◌+◌, ◌-◌, ◌≤◌, ◌<◌}
use native.Mathlib.Nat.{eq-or-lt_of_le}
use native.Mathlib.Numerals.{add-one}
use native.Mathlib.Omega.{arith}
use lib.Dec.{leb, ltb, eqb}
use lib.ListN.{length}
use borrow.Author.Tests.{leb-true, ltb-true, eqb-true}
use Rattle.accept.specs.Every.{every}
use Rattle.accept.specs.Tables.{monotone, ascends, all_ascend, number_at, starts_monotone, links_ascend}
use Rattle.accept.proofs.Every.{every_at, conj_each}

-- numbers that do not fall from one place to the next are at most the last
pub not_falling : (f : ℕ → ℕ) (n : ℕ) → ((i : ℕ) → i < n → f i ≤ f (i + 1)) → (i : ℕ) → i ≤ n → f i ≤ f n
not_falling f zero h zero k = omega arith
not_falling f zero h (suc i) k = absurd (omega arith)
not_falling f (suc n) h i k =
    ⊎_elim (λ e. rw e (omega arith))
    (λ j.
    let a = not_falling f n (λ x y. h x (omega arith)) i (omega arith) in
    let b = rw (add-one n) at (h n (omega arith)) in
    omega arith)
    (eq-or-lt_of_le k)

-- starts 0 to n begin at 0, never fall and end at `end`
pub record Monotone (starts : ℕ → ℕ) (n end : ℕ) : Type 0 where
  pub from : starts 0 ≡ 0
  pub rising : (i : ℕ) → i < n → starts i ≤ starts (i + 1)
  pub inside : (i : ℕ) → i ≤ n → starts i ≤ end
  pub last : starts n ≡ end

pub is_monotone : (starts : ℕ → ℕ) (n end : ℕ) → monotone starts n end ≡ true → Monotone starts n end
unfolding monotone
is_monotone starts n end h =
    let e = conj_each (eqb (starts 0) 0 ∷ every (λ i. leb (starts i) (starts (i + 1))) n ∷ eqb (starts n) end ∷ []) h in
    let up : (i : ℕ) → i < n → starts i ≤ starts (i + 1) = λ i k. leb-true _ _ (every_at (λ j. leb (starts j) (starts (j + 1))) n e.1.0 i k) in
    let z : starts n ≡ end = eqb-true _ _ e.1.1.0 in
    record { from = eqb-true _ _ e.0; rising = up; inside = λ i k. let a = not_falling starts n up i k in omega arith; last = z }

-- a list that was checked has n + 1 starts, and they never fall
pub starts_checked : (starts : List ℕ) (n end : ℕ) → starts_monotone starts n end ≡ true
    → (n < length starts) × (monotone (number_at starts) n end ≡ true)
starts_checked starts n end e =
    let both = (and-eq-true_iff (ltb n (length starts)) (monotone (number_at starts) n end)).0 e in
    (ltb-true _ _ both.0, both.1)

pub starts_monotone_lem : (starts : List ℕ) (n end : ℕ) → starts_monotone starts n end ≡ true
    → (n < length starts) × Monotone (number_at starts) n end
starts_monotone_lem starts n end e =
    let h = starts_checked starts n end e in
    (h.0, is_monotone (number_at starts) n end h.1)

-- from place a up to place b each number is below the next
ascends_next : (f : ℕ → ℕ) (a b : ℕ) → ascends f a b ≡ true → (j : ℕ) → a ≤ j → suc j < b → f j < f (suc j)
unfolding ascends
ascends_next f a b e j k l =
    let h : f (a + (j - a)) < f (a + (j - a) + 1) = ltb-true _ _ (every_at (λ x. ltb (f (a + x)) (f (a + x + 1))) (b - a - 1) e (j - a) (omega arith)) in
    let p : a + (j - a) ≡ j = omega arith in
    rw (p, add-one j) at h

-- and so below every later one
pub ascending : (f : ℕ → ℕ) (a b : ℕ) → ascends f a b ≡ true → (i j : ℕ) → a ≤ i → i < j → j < b → f i < f j
ascending f a b e i zero k l m = absurd (omega arith)
ascending f a b e i (suc j) k l m =
    let s = ascends_next f a b e j (omega arith) m in
    ⊎_elim (λ q. rw q s) (λ x. let p = ascending f a b e i j k x (omega arith) in omega arith)
    (eq-or-lt_of_le {n = i} {m = j} (omega arith))

-- in row i, of n rows, each link is below every later one
pub row_ascending : (starts links : ℕ → ℕ) (n : ℕ) → all_ascend starts links n ≡ true
    → (i : ℕ) → i < n → (j k : ℕ) → starts i ≤ j → j < k → k < starts (i + 1) → links j < links k
unfolding all_ascend
row_ascending starts links n e i h =
    ascending links (starts i) (starts (i + 1)) (every_at (λ x. ascends links (starts x) (starts (x + 1))) n e i h)

-- n rows of links in two lists: enough starts and links, starts that rise to the count, links that ascend in each row
pub record AscendingRows (starts : List ℕ) (n : ℕ) (links : List ℕ) (count : ℕ) : Type 0 where
  pub started : n < length starts
  pub linked : count ≤ length links
  pub rise : Monotone (number_at starts) n count
  pub ascend : (i : ℕ) → i < n → (j k : ℕ) → number_at starts i ≤ j → j < k → k < number_at starts (i + 1) → number_at links j < number_at links k

pub links_ascending : (starts : List ℕ) (n : ℕ) (links : List ℕ) (count : ℕ) → links_ascend starts n links count ≡ true → AscendingRows starts n links count
links_ascending starts n links count e =
    let h = conj_each (starts_monotone starts n count ∷ leb count (length links) ∷ all_ascend (number_at starts) (number_at links) n ∷ []) e in
    let s = starts_monotone_lem starts n count h.0 in
    record {
      started = s.0;
      linked = leb-true _ _ h.1.0;
      rise = s.1;
      ascend = row_ascending (number_at starts) (number_at links) n h.1.1.0;
    }
