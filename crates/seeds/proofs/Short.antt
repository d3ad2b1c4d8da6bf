-- Short fractions: a / 2 ^ t with a below 2 ^ 24 and t up to 149 is an f32, so a sum or a product that has this form is not rounded. Assumes nothing.
use mathlib.Core.Path.{◌≡◌, sym, ap, ◌∙◌}
use mathlib.Core.Bool.{Bool, true, false, true≢false}
use Prim.Native.Nat.{ℕ, ◌+◌, ◌-◌, ◌*◌, ◌^◌, ◌≤◌, ◌<◌}
use native.Mathlib.Nat.{lt_of_lt_of_le, mul_comm, mul_assoc, mul_right_comm, mul-mul-mul_comm, add-mul, mul-pos, eq_of_mul-eq-mul_right}
use native.Mathlib.Omega.{arith}
use lib.Pow.{pow-add, pow_pos, pow_mono, shl_lt}
use lib.Ieee.{Float, nan, inf, fin, binary32, up, down, round, sum, add, mul, of_int}
use lib.Ieee.Exact.{HasValue, round_exact}
use lib.Ieee.Back.{round_whole}
use lib.Ieee.Fits.{down_pos}
use Rattle.float.specs.Arithmetic.{◌+f◌, ◌*f◌}
use Rattle.vector.specs.Halton.{of_whole}

-- from one fraction to an equal one
pub rescale : (x : Float) (s : Bool) (a c b d : ℕ) → 0 < c → a * d ≡ b * c → HasValue x s a c → HasValue x s b d
rescale nan s a c b d p e v = v
rescale (inf t) s a c b d p e v = v
rescale (fin t m g) s a c b d p e v = (
  v.0,
  eq_of_mul-eq-mul_right c p (m * up g * d) (b * down g)
      (rw (mul_right_comm (m * up g) d c, v.1, mul_right_comm a (down g) d, e) (mul_right_comm b c (down g))),
)

-- x is a / 2 ^ t, and not below 0
abbrev pub Short : Float → ℕ → ℕ → Type 0
Short x a t = HasValue x false a (2 ^ t)

-- the same with k digits 0 behind it
pub pad : (x : Float) (a t k u : ℕ) → t + k ≡ u → Short x a t → Short x (a * 2 ^ k) u
pad x a t k u e = rescale x false a (2 ^ t) (a * 2 ^ k) (2 ^ u) (pow_pos t) (rw (← e, pow-add 2 t k, mul_comm (2 ^ t) (2 ^ k)) (sym (mul_assoc a (2 ^ k) (2 ^ t))))

-- a fraction that is a / 2 ^ t, with a of at most 24 digits, is not rounded
pub round_short : (num den a t : ℕ) → 0 < den → a < 2 ^ 24 → t ≤ 149 → num * 2 ^ t ≡ a * den → Short (round binary32 false num den) a t
round_short num den a t p q h e =
    rescale (round binary32 false num den) false num den a (2 ^ t) p e
    (round_exact binary32 false num den a (149 - t) p q (lt_of_lt_of_le (shl_lt 24 (149 - t) q) (pow_mono {i = 24 + (149 - t)} {j = 277} (omega arith))) units)
  where
    rest : 149 ≡ t + (149 - t)
    rest = omega arith

    units : num * 2 ^ 149 ≡ a * 2 ^ (149 - t) * den
    units = ap (λ (n : ℕ). num * 2 ^ n) rest ∙ rw (pow-add 2 t (149 - t), ← mul_assoc num (2 ^ t) (2 ^ (149 - t)), e) (mul_right_comm a den (2 ^ (149 - t)))

-- a whole number up to 2 ^ 24 is itself
pub whole_exact : (n : ℕ) → n ≤ 2 ^ 24 → Short (of_whole n) n 0
unfolding of_int
whole_exact n h = round_whole binary32 false n h

-- x / u + y / w, where x / u is a / p and y / w is b / p
sum_over : (x u y w a b p : ℕ) → x * p ≡ a * u → y * p ≡ b * w → (x * w + y * u) * p ≡ (a + b) * (u * w)
sum_over x u y w a b p e g =
    rw (add-mul (x * w) (y * u) p, mul_right_comm x w p, e, mul_right_comm y u p, g, add-mul a b (u * w), mul_assoc a u w, mul_assoc b w u, mul_comm w u)

-- the sum of two short fractions is exact where it is short
pub add_exact : (x y : Float) (a b t : ℕ) → a + b < 2 ^ 24 → t ≤ 149 → Short x a t → Short y b t → Short (x +f y) (a + b) t
unfolding add sum
add_exact nan y a b t q h v w = elim v [ ]
add_exact (inf _) y a b t q h v w = elim v [ ]
add_exact (fin true m e) y a b t q h v w = absurd (true≢false v.0)
add_exact (fin false m e) nan a b t q h v w = elim w [ ]
add_exact (fin false m e) (inf _) a b t q h v w = elim w [ ]
add_exact (fin false m e) (fin true n d) a b t q h v w = absurd (true≢false w.0)
add_exact (fin false m e) (fin false n d) a b t q h v w =
    round_short (m * up e * down d + n * up d * down e) (down e * down d) (a + b) t (mul-pos (down_pos e) (down_pos d)) q h
    (sum_over (m * up e) (down e) (n * up d) (down d) a b (2 ^ t) v.1 w.1)

-- x / u * y / w, where x / u is a / p and y / w is b / q
product_over : (x u y w a b p q : ℕ) → x * p ≡ a * u → y * q ≡ b * w → x * y * (p * q) ≡ a * b * (u * w)
product_over x u y w a b p q e g = rw (mul-mul-mul_comm x y p q, e, g) (mul-mul-mul_comm a u b w)

-- so is their product, c / 2 ^ u
pub mul_exact : (x y : Float) (a b c s t u : ℕ) → a * b ≡ c → s + t ≡ u → c < 2 ^ 24 → u ≤ 149 → Short x a s → Short y b t → Short (x *f y) c u
unfolding mul
mul_exact nan y a b c s t u p g q h v w = elim v [ ]
mul_exact (inf _) y a b c s t u p g q h v w = elim v [ ]
mul_exact (fin true m e) y a b c s t u p g q h v w = absurd (true≢false v.0)
mul_exact (fin false m e) nan a b c s t u p g q h v w = elim w [ ]
mul_exact (fin false m e) (inf _) a b c s t u p g q h v w = elim w [ ]
mul_exact (fin false m e) (fin true n d) a b c s t u p g q h v w = absurd (true≢false w.0)
mul_exact (fin false m e) (fin false n d) a b c s t u p g q h v w =
    round_short (m * up e * (n * up d)) (down e * down d) c u (mul-pos (down_pos e) (down_pos d)) q h
    (rw (← p, ← g, pow-add 2 s t) (product_over (m * up e) (down e) (n * up d) (down d) a b (2 ^ s) (2 ^ t) v.1 w.1))
