-- What `radical_inverse` makes of each digit, what the loop of `halton` keeps, and that its casts are exact. Assumes nothing.
use mathlib.Core.Path.{◌≡◌, refl, sym, ◌∙◌}
use Prim.Native.Nat.{ℕ, zero, suc, ◌/◌, ◌%◌, ◌^◌, ◌≤◌, ◌<◌}
use native.Mathlib.Nat.{le_refl, mod-lt, div-lt_self}
use native.Mathlib.Omega.{arith}
use lib.Dec.{T, le→leb}
use lib.IntN.{pos}
use lib.Ieee.{Float, binary32, in_float}
use borrow.Author.Tests.{ne_eqb}
use Rattle.float.specs.Arithmetic.{◌+f◌, ◌*f◌, ◌/f◌, 0f, 1f}
use Rattle.vector.specs.Halton.{of_whole, inverse_from, radical_inverse}

-- the weight after f
abbrev pub weight : ℕ → Float → Float
weight base f = f *f (1f /f of_whole base)

-- 0 has no digits
pub no_digit : (base left : ℕ) (f r : Float) → inverse_from base left f r 0 ≡ r
unfolding inverse_from
no_digit base zero f r = refl
no_digit base (suc left) f r = refl

-- of a number above 0 the lowest digit is added, and then the others, those of the number divided by the base
pub one_digit : (base left n : ℕ) (f r : Float) → 0 < n
    → inverse_from base (suc left) f r n ≡ inverse_from base left (weight base f) (r +f weight base f *f of_whole (n % base)) (n / base)
unfolding inverse_from
one_digit base left n f r p = rw (ne_eqb n 0 (λ z. omega arith))

-- with the digits of n, r becomes the radical inverse of i
abbrev pub Left : ℕ → ℕ → ℕ → Float → Float → Type 0
Left base i n f r = (left : ℕ) × (n ≤ left) × (inverse_from base left f r n ≡ radical_inverse base i)

-- at first n is i
pub all_left : (base i : ℕ) → Left base i i 1f 0f
unfolding radical_inverse
all_left base i = (i, le_refl i, refl)

-- a turn takes the lowest digit
pub next_left : (base i n : ℕ) (f r : Float) → 2 ≤ base → 0 < n → Left base i n f r
    → Left base i (n / base) (weight base f) (r +f weight base f *f of_whole (n % base))
next_left base i n f r b p (zero, h, e) = absurd (omega arith)
next_left base i n f r b p (suc left, h, e) = let l : n / base < n = div-lt_self p b in (left, omega arith, sym (one_digit base left n f r p) ∙ e)

-- at the end n is 0
pub none_left : (base i : ℕ) (f r : Float) → Left base i 0 f r → r ≡ radical_inverse base i
none_left base i f r (left, h, e) = sym (no_digit base left f r) ∙ e

-- a whole number up to 2 ^ 24 is a float exactly
pub in_float_lem : (n : ℕ) → n ≤ 2 ^ 24 → T (in_float binary32 (pos n))
unfolding in_float
in_float_lem n h = le→leb n (2 ^ 24) h

-- and so is a digit
pub digit_in_float : (base n : ℕ) → 2 ≤ base → base ≤ 2 ^ 24 → T (in_float binary32 (pos (n % base)))
digit_in_float base n b h = let d : n % base < base = mod-lt n (omega arith) in in_float_lem (n % base) (omega arith)
