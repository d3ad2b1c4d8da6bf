-- A left-to-right fold, one more at a time: what a loop that sums cites. Assumes nothing.
use mathlib.Core.Path.{◌≡◌, refl}
use Prim.Native.Nat.{ℕ, zero, suc, ◌+◌, ◌<◌}
use native.Mathlib.Numerals.{add-one}
use native.Mathlib.Omega.{arith}
use Rattle.vector.specs.Fold.{fold}

module _ {A B : Type 0} (op : A → B → A) (a : A) where
  pub fold_none : (f : ℕ → B) {s : A} → s ≡ a → s ≡ fold op a f 0
  unfolding fold
  fold_none f e = e

  -- s is the fold of j, v is the next, and t joins the two
  pub fold_more : (f : ℕ → B) (j : ℕ) {s t : A} {v : B} → s ≡ fold op a f j → v ≡ f j → t ≡ op s v → t ≡ fold op a f (j + 1)
  unfolding fold
  fold_more f j p q e = rw (e, p, q, add-one j)

  -- only the first n count
  pub fold_same : (f g : ℕ → B) (n : ℕ) → ((j : ℕ) → j < n → f j ≡ g j) → fold op a f n ≡ fold op a g n
  unfolding fold
  fold_same f g zero h = refl
  fold_same f g (suc n) h = rw (fold_same f g n (λ j k. h j (omega arith)), h n (omega arith))
