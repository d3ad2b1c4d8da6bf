-- What the first test that failed says of the tests. Assumes nothing.
use mathlib.Core.Bool.{Bool, true, false, cond}
use mathlib.Core.List.{List, [], ◌∷◌, ◌++◌}
use mathlib.Core.Logic.{◌⊎◌, inl, inr}
use mathlib.Core.Path.{◌≡◌, refl, sym, ap}
use Prim.Native.Nat.{ℕ, ◌≤◌}
use native.Mathlib.Omega.{arith}
use Rattle.std.specs.Prelude.{Ok, Err, Result}
use Rattle.accept.specs.Refusal.{number_of, checked, refusal_number}
use Rattle.accept.specs.declared.refusal.Refusal.{Refusal}

-- each test passed
abbrev pub AllPassed : List (Refusal × Bool) → Type 0
AllPassed [] = Unit
AllPassed ((refusal, passed) ∷ l) = (passed ≡ true) × AllPassed l

err_ok : {r : Refusal} {u : Unit} → ◌≡◌ {A = Result Unit Refusal} (Err r) (Ok u) → ⊥
err_ok {r = r} e =
    let z : refusal_number (Err r) ≡ 0 = ap refusal_number e in
    absurd (number_above r z)
  where
    number_above : (r : Refusal) → number_of r ≡ 0 → ⊥
    number_above r e = absurd (grind arith)

-- a test that did not refuse passed
pub require_passed : (t : Bool) (r : Refusal) {u : Unit} → ◌≡◌ {A = Result Unit Refusal} (Ok u) (cond t (Ok tt) (Err r)) → t ≡ true
require_passed true r e = refl
require_passed false r e = absurd (err_ok (sym e))

pub none_refused : (l : List (Refusal × Bool)) → checked l ≡ Ok tt → AllPassed l
unfolding checked
none_refused [] e = tt
none_refused ((refusal, true) ∷ l) e = (refl, none_refused l e)
none_refused ((refusal, false) ∷ l) e = absurd (err_ok e)

-- where the tests before it passed, a test that failed refuses
pub checked_at : (l m : List (Refusal × Bool)) (refusal : Refusal) → AllPassed l → checked (l ++ ((refusal, false) ∷ m)) ≡ Err refusal
unfolding checked
checked_at [] m refusal p = refl
checked_at ((k, passed) ∷ l) m refusal p = rw p.0 (checked_at l m refusal p.1)

-- tests that passed leave it to those after them, and one that failed comes before those
pub checked_past : (l m : List (Refusal × Bool)) → AllPassed l → checked (l ++ m) ≡ checked m
unfolding checked
checked_past [] m p = refl
checked_past ((k, passed) ∷ l) m p = rw p.0 (checked_past l m p.1)

pub checked_before : (l m : List (Refusal × Bool)) (refusal : Refusal) → checked l ≡ Err refusal → checked (l ++ m) ≡ Err refusal
unfolding checked
checked_before [] m r e = absurd (err_ok (sym e))
checked_before ((k, true) ∷ l) m r e = checked_before l m r e
checked_before ((k, false) ∷ l) m r e = e

-- the numbers of the tests rise
abbrev pub AllFrom : ℕ → List (Refusal × Bool) → Type 0
AllFrom k [] = Unit
AllFrom k ((refusal, passed) ∷ l) = (k ≤ number_of refusal) × AllFrom k l

abbrev pub Rising : List (Refusal × Bool) → Type 0
Rising [] = Unit
Rising ((refusal, passed) ∷ l) = AllFrom (number_of refusal) l × Rising l

-- a test with the number k failed
abbrev pub Failed : ℕ → List (Refusal × Bool) → Type 0
Failed k [] = ⊥
Failed k ((refusal, passed) ∷ l) = ((number_of refusal ≡ k) × (passed ≡ false)) ⊎ Failed k l

all_from : (n k : ℕ) (l : List (Refusal × Bool)) → AllFrom n l → Failed k l → n ≤ k
all_from n k [] a f = absurd f
all_from n k ((refusal, passed) ∷ l) a (inl f) = let h = a.0 in let e = f.0 in omega arith
all_from n k ((refusal, passed) ∷ l) a (inr f) = all_from n k l a.1 f

-- the number of what refuses a call is 0, or that of a test that failed
pub one_that_failed : (l : List (Refusal × Bool)) → (refusal_number (checked l) ≡ 0) ⊎ Failed (refusal_number (checked l)) l
unfolding checked
one_that_failed [] = inl refl
one_that_failed ((refusal, false) ∷ l) = inr (inl (refl, refl))
one_that_failed ((refusal, true) ∷ l) = later (one_that_failed l)
  where
    later : (refusal_number (checked l) ≡ 0) ⊎ Failed (refusal_number (checked l)) l
        → (refusal_number (checked l) ≡ 0) ⊎ (((number_of refusal ≡ refusal_number (checked l)) × (true ≡ false)) ⊎ Failed (refusal_number (checked l)) l)
    later (inl e) = inl e
    later (inr f) = inr (inr f)

-- where the numbers of the tests rise, it is not above that of any test that failed: so it is the lowest of them
pub lowest : (l : List (Refusal × Bool)) → Rising l → (k : ℕ) → Failed k l → refusal_number (checked l) ≤ k
unfolding checked
lowest [] r k f = absurd f
lowest ((refusal, false) ∷ l) r k (inl f) = let e = f.0 in omega arith
lowest ((refusal, false) ∷ l) r k (inr f) = all_from (number_of refusal) k l r.0 f
lowest ((refusal, true) ∷ l) r k (inl f) = absurd (true_false f.1)
  where
    true_false : true ≡ false → ⊥
    true_false e = let z : ◌≡◌ {A = ℕ} 0 1 = ap (λ (b : Bool). cond b 0 1) e in absurd (omega arith)
lowest ((refusal, true) ∷ l) r k (inr f) = lowest l r.1 k f
