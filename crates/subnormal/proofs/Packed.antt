-- The pattern that `packed` returns is that of the rounded fraction. Assumes nothing.
use mathlib.Core.Path.{◌≡◌, refl, sym, ap, ◌∙◌}
use mathlib.Core.Logic.{◌⊎◌, inl, inr}
use mathlib.Core.Bool.{Bool, false, cond}
use lib.Dec.{ltb, lt→ltb}
use Prim.Native.Nat.{ℕ, zero, suc, ◌+◌, ◌-◌, ◌*◌, ◌/◌, ◌%◌, ◌^◌, ◌≤◌, ◌<◌, max, compare}
use native.Mathlib.Nat.{le_trans, le_of_eq, lt_of_lt_of_le, lt_of_le_of_lt, eq-or-lt_of_le, mul_comm, mul_assoc, mul_left_comm, mul_right_comm, mul-pos, mul-le-mul_right, mul-lt-mul_of_pos_right, le-div_iff_mul-le, div-lt_iff_lt-mul}
use native.Mathlib.Omega.{arith}
use lib.Pow.{pow_pos, pow_mono, pow-lt, pow-add, high, low}
use lib.Count.{count_trailing_zeros}
use lib.Ieee.{inf, fin, binary32, minus, size, odd, units, round, of_bits}
use lib.Ieee.Bits.{is_true}
use lib.Ieee.Digits.{size-lt, size-le, size_reaches}
use lib.Ieee.Fits.{round_is, nearest-le}
use lib.Ieee.Nearest.{closest, closest_same, div_same, nearest-ge}
use Rattle.float.proofs.Numbers.{here_or_on}
use Rattle.float.proofs.Patterns.{small, normal, units_is}
use Rattle.subnormal.specs.Packing.{beyond, dropped, pattern}
use Rattle.subnormal.proofs.Apart.{digits_over}

-- ---- q * 2 ^ k units, q of 24 digits or fewer, have the pattern k * 2 ^ 23 + q: where the leading digit is at its place it adds one to the exponent's field

none : of_bits binary32 0 ≡ units binary32 false 0 0
unfolding of_bits units
none = refl

-- 2 ^ 24 has one digit more, and is written as 2 ^ 23 with the next exponent
same_odd : (k : ℕ) → odd 25 false (2 ^ 24) k 149 ≡ odd 24 false (2 ^ 23) (k + 1) 149
unfolding odd count_trailing_zeros
same_odd k = ap (λ (i : ℕ). fin false 1 (minus i 149)) (places k)
  where
    places : (i : ℕ) → i + 24 ≡ i + 1 + 23
    places i = omega arith

raised : (k : ℕ) → k ≤ 252 → units binary32 false (2 ^ 24) k ≡ odd 24 false (2 ^ 23) (k + 1) 149
unfolding units
raised k l =
    ap (λ (b : Bool). cond b (odd 25 false (2 ^ 24) k 149) (inf false)) (is_true (ltb (2 ^ 24 * 2 ^ k) (2 ^ 277)) (lt→ltb (2 ^ 24 * 2 ^ k) (2 ^ 277) (lt_of_le_of_lt (le_of_eq (sym (pow-add 2 24 k))) (pow-lt (room k l)))))
    ∙ same_odd k
  where
    room : (i : ℕ) → i ≤ 252 → 24 + i < 277
    room i h = omega arith

pub read_back : (q k : ℕ) → q ≤ 2 ^ 24 → (k ≡ 0) ⊎ (2 ^ 23 ≤ q) → k ≤ 250 → of_bits binary32 (k * 2 ^ 23 + q) ≡ units binary32 false q k
read_back q k most lead few = elim (here_or_on q (2 ^ 23)) [
  | inl l ↦ below l (flat l lead)
  | inr g ↦ elim (eq-or-lt_of_le most) [ inl e ↦ full e | inr l ↦ digits g l ]
]
  where
    flat : q < 2 ^ 23 → (k ≡ 0) ⊎ (2 ^ 23 ≤ q) → k ≡ 0
    flat l (inl e) = e
    flat l (inr g) = absurd (omega arith)

    start : (i : ℕ) → i ≡ 0 → i * 2 ^ 23 + q ≡ q
    start i e = omega arith

    subnormal : (i : ℕ) → i < 2 ^ 23 → of_bits binary32 i ≡ units binary32 false i 0
    subnormal zero l = none
    subnormal (suc i) l = small (suc i) l ∙ sym (units_is (suc i) 0 (omega arith) (omega arith) (omega arith))

    below : q < 2 ^ 23 → k ≡ 0 → of_bits binary32 (k * 2 ^ 23 + q) ≡ units binary32 false q k
    below l e = ap (λ (i : ℕ). of_bits binary32 i) (start k e) ∙ subnormal q l ∙ ap (λ (i : ℕ). units binary32 false q i) (sym e)

    at : (f t : ℕ) → t < 2 ^ 23 → 0 < f → f ≤ 253 → of_bits binary32 (f * 2 ^ 23 + t) ≡ odd 24 false (2 ^ 23 + t) (f - 1) 149
    at f t l p u =
        normal (f * 2 ^ 23 + t) (omega arith) (omega arith)
        ∙ ap (λ (i : ℕ). odd 24 false (2 ^ 23 + i) ((f * 2 ^ 23 + t) / 2 ^ 23 - 1) 149) (low f 23 l)
        ∙ ap (λ (i : ℕ). odd 24 false (2 ^ 23 + t) (i - 1) 149) (high f 23 l)

    digits : 2 ^ 23 ≤ q → q < 2 ^ 24 → of_bits binary32 (k * 2 ^ 23 + q) ≡ units binary32 false q k
    digits g l =
        ap (λ (i : ℕ). of_bits binary32 i) (carried g)
        ∙ at (k + 1) (q - 2 ^ 23) (omega arith) (omega arith) (omega arith)
        ∙ ap (λ (i : ℕ). odd 24 false i (k + 1 - 1) 149) (whole g)
        ∙ ap (λ (i : ℕ). odd 24 false q i 149) (back k)
        ∙ sym (units_is q k (omega arith) l (omega arith))
      where
        carried : 2 ^ 23 ≤ q → k * 2 ^ 23 + q ≡ (k + 1) * 2 ^ 23 + (q - 2 ^ 23)
        carried h = omega arith

        whole : 2 ^ 23 ≤ q → 2 ^ 23 + (q - 2 ^ 23) ≡ q
        whole h = omega arith

        back : (i : ℕ) → i + 1 - 1 ≡ i
        back i = omega arith

    full : q ≡ 2 ^ 24 → of_bits binary32 (k * 2 ^ 23 + q) ≡ units binary32 false q k
    full e =
        ap (λ (i : ℕ). of_bits binary32 i) (carried e)
        ∙ at (k + 2) 0 (omega arith) (omega arith) (omega arith)
        ∙ ap (λ (i : ℕ). odd 24 false (2 ^ 23) i 149) (back k)
        ∙ sym (raised k (omega arith))
        ∙ ap (λ (i : ℕ). units binary32 false i k) (sym e)
      where
        carried : q ≡ 2 ^ 24 → k * 2 ^ 23 + q ≡ (k + 2) * 2 ^ 23 + 0
        carried h = omega arith

        back : (i : ℕ) → i + 2 - 1 ≡ i + 1
        back i = omega arith

-- ---- `round` at the fraction N * 2 ^ w / (M * 2 ^ t) of a smallest value, whose whole part has 24 + k digits, or fewer where k is 0

module _ (N M w t s k : ℕ) (some : 0 < M) (shift : s + w ≡ t + k) (hi : N * 2 ^ w < 2 ^ (24 + k) * (M * 2 ^ t)) (lo : (k ≡ 0) ⊎ (2 ^ (23 + k) * (M * 2 ^ t) ≤ N * 2 ^ w)) where
  abbrev W : ℕ
  W = N * 2 ^ w / (M * 2 ^ t)

  den_pos : 0 < M * 2 ^ t
  den_pos = mul-pos some (pow_pos t)

  den_149 : 0 < M * 2 ^ (t + 149)
  den_149 = mul-pos some (pow_pos (t + 149))

  -- in units
  in_units : N * 2 ^ w * 2 ^ 149 / (M * 2 ^ (t + 149)) ≡ W
  in_units = div_same (N * 2 ^ w * 2 ^ 149) (M * 2 ^ (t + 149)) (N * 2 ^ w) (M * 2 ^ t) den_149 den_pos move
    where
      move : N * 2 ^ w * 2 ^ 149 * (M * 2 ^ t) ≡ N * 2 ^ w * (M * 2 ^ (t + 149))
      move = mul_assoc (N * 2 ^ w) (2 ^ 149) (M * 2 ^ t) ∙ ap (λ (i : ℕ). N * 2 ^ w * i) (mul_left_comm (2 ^ 149) M (2 ^ t) ∙ ap (λ (i : ℕ). M * i) (mul_comm (2 ^ 149) (2 ^ t) ∙ sym (pow-add 2 t 149)))

  W_lt : W < 2 ^ (24 + k)
  W_lt = (div-lt_iff_lt-mul den_pos).1 hi

  digits_is : size W - 24 ≡ k
  digits_is = go lo
    where
      go : (k ≡ 0) ⊎ (2 ^ (23 + k) * (M * 2 ^ t) ≤ N * 2 ^ w) → size W - 24 ≡ k
      go (inl e) = let a = size-le W (24 + k) W_lt in omega arith
      go (inr l) =
          let a = size-le W (24 + k) W_lt in
          let b : 2 ^ (23 + k) ≤ W = (le-div_iff_mul-le den_pos).1 l in
          let c : 23 + k < size W = digits_over W (23 + k) b in
          omega arith

  kept_is : closest (N * 2 ^ w * 2 ^ 149) (M * 2 ^ (t + 149) * 2 ^ k) ≡ closest N (M * 2 ^ s)
  kept_is = closest_same (N * 2 ^ w * 2 ^ 149) (M * 2 ^ (t + 149) * 2 ^ k) N (M * 2 ^ s) (mul-pos den_149 (pow_pos k)) (mul-pos some (pow_pos s)) same
    where
      left : N * 2 ^ w * 2 ^ 149 * (M * 2 ^ s) ≡ N * M * 2 ^ (s + w + 149)
      left = rw (pow-add 2 (s + w) 149, pow-add 2 s w) (simp (mul_assoc, mul_comm, mul_left_comm))

      right : N * (M * 2 ^ (t + 149) * 2 ^ k) ≡ N * M * 2 ^ (t + k + 149)
      right = rw (pow-add 2 (t + k) 149, pow-add 2 t k, pow-add 2 t 149) (simp (mul_assoc, mul_comm, mul_left_comm))

      same : N * 2 ^ w * 2 ^ 149 * (M * 2 ^ s) ≡ N * (M * 2 ^ (t + 149) * 2 ^ k)
      same = left ∙ ap (λ (i : ℕ). N * M * 2 ^ (i + 149)) shift ∙ sym right

  pub round_at : round binary32 false (N * 2 ^ w) (M * 2 ^ (t + 149)) ≡ units binary32 false (closest N (M * 2 ^ s)) k
  round_at =
      round_is binary32 false (N * 2 ^ w) (M * 2 ^ (t + 149))
      ∙ ap (λ (i : ℕ). units binary32 false (closest (N * 2 ^ w * 2 ^ 149) (M * 2 ^ (t + 149) * 2 ^ i)) i) (ap (λ (i : ℕ). size i - 24) in_units ∙ digits_is)
      ∙ ap (λ (i : ℕ). units binary32 false i k) kept_is

-- ---- what is kept has 24 digits, or is 2 ^ 24

pub kept-le : (p T : ℕ) → 65 ≤ max (size p + 40) T → closest p (2 ^ dropped p T) ≤ 2 ^ 24
kept-le p T cut =
    let s = dropped p T in
    le_trans (nearest-le (p / 2 ^ s) (compare (p % 2 ^ s * 2) (2 ^ s))) ((div-lt_iff_lt-mul (pow_pos s)).1 (lt_of_lt_of_le (size-lt p) (le_trans (pow_mono {i = size p} {j = 24 + s} (omega arith)) (le_of_eq (pow-add 2 24 s)))))

-- ---- the pattern of p and T is that of the rounded fraction X / M * 2 ^ 64 / 2 ^ T, where X / M has as many digits as p and rounds as p does where T says

module _ (p T X M : ℕ) (some : 0 < M) (short : size p ≤ 50) (far : T ≤ 250) (cut : 65 ≤ max (size p + 40) T)
    (above : 0 < p → 2 ^ (size p - 1) * M ≤ X) (under : X < 2 ^ size p * M) (alike : closest X (M * 2 ^ dropped p T) ≡ closest p (2 ^ dropped p T)) where
  abbrev z : ℕ
  z = size p

  abbrev k : ℕ
  k = beyond p T

  abbrev s : ℕ
  s = dropped p T

  abbrev w : ℕ
  w = 64 - T

  abbrev t : ℕ
  t = T - 64

  shift : s + w ≡ t + k
  shift = omega arith

  -- where digits are dropped, p has one
  p_pos : 0 < k → 0 < p
  p_pos h = elim (here_or_on 0 p) [ inl l ↦ l | inr g ↦ absurd (let e : size p ≤ 0 = size-le p 0 (omega arith) in omega arith) ]

  powers : (a b : ℕ) → 2 ^ a * M * 2 ^ b ≡ 2 ^ (a + b) * M
  powers a b = mul_right_comm (2 ^ a) M (2 ^ b) ∙ ap (λ (i : ℕ). i * M) (sym (pow-add 2 a b))

  joined : (a b : ℕ) → 2 ^ a * (M * 2 ^ b) ≡ 2 ^ (a + b) * M
  joined a b = sym (mul_assoc (2 ^ a) M (2 ^ b)) ∙ powers a b

  hi : X * 2 ^ w < 2 ^ (24 + k) * (M * 2 ^ t)
  hi = lt_of_lt_of_le (mul-lt-mul_of_pos_right under (pow_pos w)) (le_trans (le_of_eq (powers z w)) (le_trans (mul-le-mul_right M (pow_mono {i = z + w} {j = 24 + k + t} (omega arith))) (le_of_eq (sym (joined (24 + k) t)))))

  lo : (k ≡ 0) ⊎ (2 ^ (23 + k) * (M * 2 ^ t) ≤ X * 2 ^ w)
  lo = elim (here_or_on 0 k) [
    | inl g ↦ inr (le_trans (le_of_eq (joined (23 + k) t)) (le_trans (mul-le-mul_right M (pow_mono {i = 23 + k + t} {j = z - 1 + w} (omega arith))) (le_trans (le_of_eq (sym (powers (z - 1) w))) (mul-le-mul_right (2 ^ w) (above (p_pos g))))))
    | inr g ↦ inl (omega arith)
  ]

  abbrev q : ℕ
  q = closest p (2 ^ s)

  q_ge : (k ≡ 0) ⊎ (2 ^ 23 ≤ q)
  q_ge = elim (here_or_on 0 k) [
    | inl g ↦ inr (le_trans ((le-div_iff_mul-le (pow_pos s)).1 (le_trans (le_of_eq (sym (pow-add 2 23 s))) (size_reaches p (23 + s) (omega arith)))) (nearest-ge (p / 2 ^ s) (compare (p % 2 ^ s * 2) (2 ^ s))))
    | inr g ↦ inl (omega arith)
  ]

  pub packs : of_bits binary32 (pattern p T) ≡ round binary32 false (X * 2 ^ w) (M * 2 ^ (t + 149))
  packs = read_back q k (kept-le p T cut) q_ge (omega arith) ∙ ap (λ (i : ℕ). units binary32 false i k) (sym alike) ∙ sym (round_at X M w t s k some shift hi lo)
