-- Stores past a list's end, for `text::put`. `lib.Seq` has the length after a run of stores, `length-sets`, and what is there where all fit, `sets-eq`. Assumes nothing.
use Prim.Native.Nat.{ℕ, zero, suc, ◌+◌, ◌≤◌, ◌<◌}
use mathlib.Core.Path.{◌≡◌, refl, sym}
use mathlib.Core.List.{List, [], ◌∷◌}
use native.Mathlib.Omega.{arith}
use lib.ListN.{length, take, length-set}
use lib.Seq.{sets, set_out}

-- they change nothing
pub sets_out : (l : List ℕ) (i : ℕ) (vs : List ℕ) → length l ≤ i → sets l i vs ≡ l
sets_out l i [] h = refl
sets_out l i (a ∷ vs) h = rw (set_out l i a h) (sets_out l (suc i) vs (omega arith))

-- so the first n stores are all of them, where the list ends after those
pub sets_cut : (l : List ℕ) (i n : ℕ) (vs : List ℕ) → (n < length vs → length l ≤ i + n) → sets l i (take n vs) ≡ sets l i vs
sets_cut l i zero [] h = refl
sets_cut l i (suc n) [] h = refl
sets_cut l i zero (a ∷ vs) h = sym (sets_out l i (a ∷ vs) (let k = h (omega arith) in omega arith))
sets_cut l i (suc n) (a ∷ vs) h = sets_cut _ (suc i) n vs (λ k. let e = h (omega arith) in simp length-set (omega arith))
