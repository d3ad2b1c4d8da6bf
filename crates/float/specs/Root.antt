-- The square root of an f32: document 01, 'The root', and IEEE 754-2019's square_root. Definitions only.
-- binary32 has significands of 24 digits, and its smallest positive value is 2 ^ -149.
use Rattle.std.specs.Prelude.{ℕ, zero, suc, ◌+◌, ◌-◌, ◌*◌, ◌/◌, ◌^◌, ◌<◌, ◌≤◌, false, cond, T, nat_le, Float}
use Prim.Native.Nat.{compare}
use Rattle.std.specs.Float.{nan, inf, fin, binary32}
use Rattle.std.specs.Float.Ieee.{up, down, size, nearest, units, fits}
use Rattle.std.specs.Float.Ieee.Exact.{HasValue}

-- q is the whole-number root of n
abbrev pub Root : ℕ → ℕ → Type 0
Root n q = (q * q ≤ n) × (n < (q + 1) * (q + 1))

-- r, or the next number up where its square is still within n
abbrev pub raised : ℕ → ℕ → ℕ
raised n r = cond (nat_le (suc r * suc r) n) (suc r) r

-- the whole-number root of an n below 4 ^ d: twice that of n / 4, or one more
unfoldable pub root_in : ℕ → ℕ → ℕ
root_in zero n = zero
root_in (suc d) n = raised n (2 * root_in d (n / 4))

unfoldable pub whole_root : ℕ → ℕ
unfolding root_in
whole_root n = root_in (size n) n

-- The float nearest to the root of n smallest values, for an n above 0. In units of a smallest value that root is √N, with N = n * 2 ^ 149.
-- Of its whole part the 24 leading digits, q, are kept and k are dropped. So the result is q or q + 1 times 2 ^ k units, by how √N compares with
-- the middle of the two, (q + 1 / 2) * 2 ^ k, and at a tie the even one. Both sides of that comparison are doubled and squared.
unfoldable pub root_of : ℕ → Float
unfolding whole_root units size
root_of n =
    let N = n * 2 ^ 149 in
    let k = size (whole_root N) - 24 in
    let q = whole_root N / 2 ^ k in
    let mid = (2 * q + 1) * 2 ^ k in
    units binary32 false (nearest q (compare (4 * N) (mid * mid))) k

-- A zero is its own root, and so is +∞. A number below 0 has none. Of a positive number m * 2 ^ e, which is (m * up e * 2 ^ 149) / down e smallest values, the nearest float.
unfoldable pub square_root : Float → Float
unfolding root_of
square_root nan = nan
square_root (inf s) = cond s nan (inf false)
square_root (fin s zero e) = fin s zero e
square_root (fin s (suc m) e) = cond s nan (root_of (suc m * up e * 2 ^ 149 / down e))

-- r is nearer to the exact root of x than any other value of binary32, so there is no tie. In units of the smallest value, 2 ^ -149, x is n, so that its
-- root is √(n * 2 ^ 149), and r is a. Let c be another value of the format. Where it lies above r, the root is below the middle of the two, (a + c) / 2, and
-- where it lies below r, above it. Both sides are doubled and squared. (A value below 0 is farther than 0 is.)
pub record NearestRoot (x r : Float) : Type 0 where
  pub n : ℕ
  pub a : ℕ
  pub x_is : HasValue x false n (2 ^ 149)
  pub r_is : HasValue r false a (2 ^ 149)
  pub from_above : (y : Float) (c : ℕ) → T (fits binary32 y) → HasValue y false c (2 ^ 149) → a < c → 4 * (n * 2 ^ 149) < (a + c) * (a + c)
  pub from_below : (y : Float) (c : ℕ) → T (fits binary32 y) → HasValue y false c (2 ^ 149) → c < a → (a + c) * (a + c) < 4 * (n * 2 ^ 149)
