-- A flat list cut into threes has its vectors in them. Assumes nothing.
use mathlib.Core.List.{List, [], ◌∷◌}
use mathlib.Core.Path.{◌≡◌, refl, ap}
use Prim.Native.Nat.{ℕ, zero, suc, ◌+◌, ◌*◌, ◌/◌, ◌≤◌, ◌<◌}
use native.Mathlib.Omega.{arith}
use lib.Ieee.{Float}
use lib.ListN.{length, get_or, drop}
use Rattle.std.specs.Simd.{first_chunks}
use Rattle.float.specs.Column.{float_at}
use Rattle.vector.specs.declared.Vec3.{Vec3}
use Rattle.vector.specs.Flat.{vec_at}

pub length_chunks : (k : ℕ) (l : List Float) → length (first_chunks 3 k l) ≡ k
length_chunks zero l = refl
length_chunks (suc k) l = ap (λ (j : ℕ). suc j) (length_chunks k (drop 3 l))

-- chunk i of k
pub chunk_at : (k i : ℕ) (l : List Float) (d : List Float) → i < k → 3 * k ≤ length l
    → get_or (first_chunks 3 k l) i d ≡ float_at l (3 * i) ∷ float_at l (3 * i + 1) ∷ float_at l (3 * i + 2) ∷ []
chunk_at zero i l d h e = absurd (omega arith)
chunk_at (suc k) zero (a ∷ b ∷ c ∷ l) d h e = refl
chunk_at (suc k) (suc i) (a ∷ b ∷ c ∷ l) d h e =
    let f : 3 * suc i ≡ suc (suc (suc (3 * i))) = omega arith in
    let g : 3 * suc i + 1 ≡ suc (suc (suc (3 * i + 1))) = omega arith in
    let m : 3 * suc i + 2 ≡ suc (suc (suc (3 * i + 2))) = omega arith in
    rw (g, m, f) (chunk_at k i l d (omega arith) (omega arith))
chunk_at (suc k) i [] d h e = absurd (omega arith)
chunk_at (suc k) i (a ∷ []) d h e = absurd (omega arith)
chunk_at (suc k) i (a ∷ b ∷ []) d h e = absurd (omega arith)

-- a list that is cut has its vector i in chunk i
module _ (l : List Float) {p : List (List Float)} (cut : p ≡ first_chunks 3 (length l / 3) l) (i : ℕ) (h : 3 * i + 2 < length l) where
  pub cut_below : i < length p
  cut_below = rw (cut, length_chunks (length l / 3) l) (omega arith)

  pub cut_at : (d : List Float) {v : Vec3} → v ≡ vec_at (get_or p i d) 0 → v ≡ vec_at l i
  cut_at d e = rw (e, cut, chunk_at (length l / 3) i l d (omega arith) (omega arith))
