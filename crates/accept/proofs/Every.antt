-- Several tests as one: one test more at a time, and what each says where all held. Assumes nothing.
use mathlib.Core.Bool.{Bool, true, false, ◌&&◌, and-eq-true_iff, and-true, and_assoc}
use mathlib.Core.List.{List, [], ◌∷◌}
use mathlib.Core.Logic.{⊎_elim}
use mathlib.Core.Path.{◌≡◌, refl, sym, ◌∙◌}
use Prim.Native.Nat.{ℕ, zero, suc, ◌+◌, ◌*◌, ◌<◌}
use native.Mathlib.Nat.{add-zero, add-suc, zero-mul, suc-mul, mul_comm, eq-or-lt_of_le}
use native.Mathlib.Numerals.{add-one}
use native.Mathlib.Omega.{arith}
use Rattle.float.proofs.Signs.{clash}
use Rattle.accept.specs.Every.{every, conj, conj_from}

-- a loop that makes the tests starts with true, and puts one test more to those made
pub every_none : (f : ℕ → Bool) → true ≡ every f 0
unfolding every
every_none f = refl

pub every_more : (f : ℕ → Bool) (i : ℕ) {ok t : Bool} → ok ≡ every f i → t ≡ f i → (ok && t) ≡ every f (i + 1)
unfolding every
every_more f i p q = rw (p, q, add-one i)

-- each of the n tests held
pub every_at : (f : ℕ → Bool) (n : ℕ) → every f n ≡ true → (i : ℕ) → i < n → f i ≡ true
unfolding every
every_at f zero e i h = absurd (omega arith)
every_at f (suc n) e i h =
    let both = (and-eq-true_iff (every f n) (f n)).0 e in
    ⊎_elim (λ q. rw q both.1) (λ k. every_at f n both.0 i k) (eq-or-lt_of_le {n = i} {m = n} (omega arith))

-- where each held, all did
pub every_all : (f : ℕ → Bool) (n : ℕ) → ((i : ℕ) → i < n → f i ≡ true) → every f n ≡ true
unfolding every
every_all f zero h = refl
every_all f (suc n) h = rw (every_all f n (λ i k. h i (omega arith)), h n (omega arith))

-- a test that fails for one of n
pub every_fails : (f : ℕ → Bool) (n i : ℕ) → i < n → f i ≡ false → every f n ≡ false
every_fails f n i h e = by_test (every f n) refl
  where
    by_test : (t : Bool) → every f n ≡ t → every f n ≡ false
    by_test true q = clash (sym (every_at f n q i h) ∙ e)
    by_test false q = q

-- where not every one of n tests holds, one fails
pub record Failing (f : ℕ → Bool) (n : ℕ) : Type 0 where
  pub place : ℕ
  pub below : place < n
  pub fails : f place ≡ false

pub one_fails : (f : ℕ → Bool) (n : ℕ) → every f n ≡ false → Failing f n
unfolding every
one_fails f zero e = clash e
one_fails f (suc n) e = by_test (f n) refl (every f n) refl (one_fails f n)
  where
    by_test : (t : Bool) → f n ≡ t → (u : Bool) → every f n ≡ u → (every f n ≡ false → Failing f n) → Failing f (suc n)
    by_test false q u r before = record { place = n; below = omega arith; fails = q }
    by_test true q false r before =
        let w = before r in
        record { place = w.place; below = omega (arith, w.below); fails = w.fails }
    by_test true q true r before = clash (rw (r, q) at e)

-- only the first n tests count
pub every_same : (f g : ℕ → Bool) (n : ℕ) → ((i : ℕ) → i < n → f i ≡ g i) → every f n ≡ every g n
unfolding every
every_same f g zero h = refl
every_same f g (suc n) h = rw (every_same f g n (λ i k. h i (omega arith)), h n (omega arith))

-- a + m tests are a tests and m more
every_split : (f : ℕ → Bool) (a m : ℕ) → every f (a + m) ≡ (every f a && every (λ j. f (a + j)) m)
unfolding every
every_split f a zero = rw (add-zero a) (sym (and-true (every f a)))
every_split f a (suc m) = rw (add-suc a m, every_split f a m) (and_assoc (every f a) (every (λ j. f (a + j)) m) (f (a + m)))

-- n times w tests are w tests for each of n
pub every_product : (f : ℕ → Bool) (n w : ℕ) → every f (n * w) ≡ every (λ i. every (λ j. f (w * i + j)) w) n
unfolding every
every_product f zero w = rw (zero-mul w)
every_product f (suc n) w = rw (suc-mul n w, every_split f (n * w) w, every_product f n w, mul_comm n w)

-- each test of a list held
abbrev pub Each : List Bool → Type 0
Each [] = Unit
Each (a ∷ l) = (a ≡ true) × Each l

conj_from_lem : (a : Bool) (l : List Bool) → conj_from a l ≡ true → Each (a ∷ l)
conj_from_lem a [] e = (e, tt)
conj_from_lem a (b ∷ l) e =
    let h = conj_from_lem (a && b) l e in
    let both = (and-eq-true_iff a b).0 h.0 in
    (both.0, (both.1, h.1))

pub conj_each : (l : List Bool) → conj l ≡ true → Each l
conj_each [] e = tt
conj_each (a ∷ l) e = conj_from_lem a l e
