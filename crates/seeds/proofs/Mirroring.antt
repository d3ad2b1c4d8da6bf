-- The digits of a whole number in any base, mirrored: 0 has none, the fraction is below 1, and the lowest digit comes first. Assumes nothing.
use mathlib.Core.Path.{◌≡◌, refl}
use Prim.Native.Nat.{ℕ, zero, suc, ◌+◌, ◌*◌, ◌/◌, ◌%◌, ◌^◌, ◌≤◌, ◌<◌}
use native.Mathlib.Nat.{add_assoc, pow-zero, mul_comm, mul_assoc, add-mul, mul-le-mul_right, zero-lt-suc, zero-mod, zero-div, mod-lt, pow-succ', div-lt_iff_lt-mul}
use native.Mathlib.Omega.{arith}
use Rattle.seeds.specs.Mirrored.{mirrored}

-- 0 has no digits
pub mirrored_none : (base k : ℕ) → mirrored base k 0 ≡ 0
unfolding mirrored
mirrored_none base zero = refl
mirrored_none base (suc k) = rw (zero-mod base, zero-div base, mirrored_none base k) (omega arith)

-- v below p, put behind d below b
pub behind_below : (d b v p : ℕ) → d < b → v < p → d * p + v < b * p
behind_below d b v p h g = let m : suc d * p ≤ b * p = mul-le-mul_right p h in omega (arith, add-mul 1 d p)

-- the digits mirrored are below base ^ k, so the fraction is below 1
pub mirrored_below : (base k i : ℕ) → 0 < base → mirrored base k i < base ^ k
unfolding mirrored
mirrored_below base zero i b = rw (pow-zero base) (zero-lt-suc 0)
mirrored_below base (suc k) i b = rw pow-succ' (behind_below (i % base) base (mirrored base k (i / base)) (base ^ k) (mod-lt i b) (mirrored_below base k (i / base) b))

-- without its lowest digit, a number of k + 1 digits has k
pub rest_below : (base k i : ℕ) → 0 < base → i < base ^ suc k → i / base < base ^ k
rest_below base k i b h = (div-lt_iff_lt-mul b).1 (rw (mul_comm (base ^ k) base, ← pow-succ' base k) h)

-- behind R the lowest digit of i comes first, and then its other digits
pub lowest_first : (base k R i : ℕ) → (R * base + i % base) * base ^ k + mirrored base k (i / base) ≡ R * base ^ suc k + mirrored base (suc k) i
unfolding mirrored
lowest_first base k R i = rw (add-mul (R * base) (i % base) (base ^ k), mul_assoc R base (base ^ k), ← pow-succ' base k) (add_assoc (R * base ^ suc k) (i % base * base ^ k) (mirrored base k (i / base)))
