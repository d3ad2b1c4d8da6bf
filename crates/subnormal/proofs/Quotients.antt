-- The quotient of two positive floats, by their parts: the pattern that `quotient` packs is that of `div`. Assumes nothing.
use mathlib.Core.Path.{◌≡◌, sym, ap, ◌∙◌, subst}
use mathlib.Core.Bool.{true, false, cond}
use Prim.Native.Nat.{ℕ, suc, ◌+◌, ◌-◌, ◌*◌, ◌/◌, ◌^◌, ◌≤◌, ◌<◌}
use native.Mathlib.Nat.{le_trans, le_of_eq, le_of_lt, lt_of_lt_of_le, lt_of_le_of_lt, mul_comm, mul_assoc, mul_left_comm, mul-mul-mul_comm, mul-pos, mul-le-mul_right, mul-le-mul_left, lt_irrefl, le-div_iff_mul-le, div-lt_iff_lt-mul, div-mul-le_self, pow-succ'}
use native.Mathlib.Omega.{arith}
use lib.Dec.{T, eqb, ltb→lt, eqb→eq, not_T}
use lib.Pow.{pow_pos, pow_mono, pow-add, shl_lt}
use lib.Count.{count_leading_zeros, leading_top}
use lib.Ieee.{Float, nan, inf, fin, Format, binary32, up, down, size, round, div, of_bits, to_bits}
use lib.Ieee.Digits.{size-lt, size-le, size_reaches}
use lib.Ieee.Bits.{cond_no}
use lib.Ieee.Exact.{HasValue}
use lib.Ieee.Nearest.{closest, closest_same}
use lib.Ieee.Positive.{positive, num, den, den_pos, own_value, value→cross, value_pos}
use lib.Ieee.Scale.{round_same}
use Rattle.float.specs.Arithmetic.{◌/f◌}
use Rattle.float.proofs.Numbers.{pow_lt_cancel}
use Rattle.subnormal.specs.Parts.{significand_of, exponent_of}
use Rattle.subnormal.specs.Packing.{dropped, pattern, halves}
use Rattle.subnormal.proofs.Apart.{Parts, digits_over, exponent_pos}
use Rattle.subnormal.proofs.Rounded.{doubled, by_halves}
use Rattle.subnormal.proofs.Packed.{packs}

-- ---- a quotient is the rounded fraction of the values
div_is : (f : Format) (x y : Float) → T (positive x) → T (positive y) → div f x y ≡ round f false (num x * den y) (num y * den x)
unfolding div
div_is f nan y p q = absurd p
div_is f (inf s) y p q = absurd p
div_is f (fin true m e) y p q = absurd p
div_is f (fin false m e) nan p q = absurd q
div_is f (fin false m e) (inf t) p q = absurd q
div_is f (fin false m e) (fin true n d) p q = absurd q
div_is f (fin false m e) (fin false n d) p q =
    cond_no (eqb n 0) (cond (eqb m 0) nan (inf false)) (round f false (m * up e * down d) (n * up d * down e)) (not_T (eqb n 0) (λ (t : T (eqb n 0)). lt_irrefl 0 (subst (λ (i : ℕ). 0 < i) (eqb→eq n 0 t) (ltb→lt 0 n q))))

div_at : (f : Format) (x y : Float) (a c b d : ℕ) → T (positive x) → T (positive y) → 0 < c → 0 < d → 0 < b → HasValue x false a c → HasValue y false b d → div f x y ≡ round f false (a * d) (c * b)
div_at f x y a c b d p q C D B h k =
    div_is f x y p q
    ∙ round_same f false (num x * den y) (num y * den x) (a * d) (c * b) (mul-pos (value_pos y (num y) (den y) q (den_pos y) (own_value y q)) (den_pos x)) (mul-pos C B)
    (mul-mul-mul_comm (num x) (den y) c b
    ∙ ap (λ (z : ℕ). z * (den y * b)) (value→cross x a c h)
    ∙ ap (λ (z : ℕ). a * den x * z) (mul_comm (den y) b ∙ sym (value→cross y b d k))
    ∙ swapped (den x) (num y))
  where
    swapped : (u v : ℕ) → a * u * (v * d) ≡ a * d * (v * u)
    swapped u v = simp (mul_assoc, mul_comm, mul_left_comm)

-- ---- the quotient: n is ma moved up to 49 digits, and n / mb is known by its whole number of halves

module _ (x y : Float) (X : Parts x) (Y : Parts y) (lead : 2 ^ 23 ≤ significand_of (to_bits binary32 y)) where
  abbrev mx : ℕ
  mx = significand_of (to_bits binary32 x)

  abbrev my : ℕ
  my = significand_of (to_bits binary32 y)

  abbrev ex : ℕ
  ex = exponent_of (to_bits binary32 x)

  abbrev ey : ℕ
  ey = exponent_of (to_bits binary32 y)

  abbrev zeros : ℕ
  zeros = count_leading_zeros 64 mx

  abbrev raise : ℕ
  raise = zeros - 40

  top : (j : ℕ) × (zeros + suc j ≡ 64) × (2 ^ j ≤ mx) × (mx < 2 ^ suc j)
  top = leading_top 64 mx X.some (let h = X.few in omega arith)

  low_bit : top.0 < 24
  low_bit = pow_lt_cancel (lt_of_le_of_lt top.2 X.few)

  zeros_le : zeros ≤ 63
  zeros_le = let e = top.1 in omega arith

  abbrev n : ℕ
  n = mx * 2 ^ (raise + 25)

  places : top.0 + (raise + 25) ≡ 48
  places = let e = top.1 in let l = low_bit in omega arith

  n_ge : 2 ^ 48 ≤ n
  n_ge = le_trans (le_of_eq (ap (λ (i : ℕ). 2 ^ i) (sym places) ∙ pow-add 2 top.0 (raise + 25))) (mul-le-mul_right (2 ^ (raise + 25)) top.2)

  pub n-lt : n < 2 ^ 49
  n-lt = lt_of_lt_of_le (shl_lt (suc top.0) (raise + 25) top.3) (pow_mono {i = suc top.0 + (raise + 25)} {j = 49} (let e = places in omega arith))

  pub my_pos : 0 < my
  my_pos = Y.some

  abbrev Q : ℕ
  Q = n / my

  abbrev h : ℕ
  h = halves n my

  Q_ge : 2 ^ 24 ≤ Q
  Q_ge = (le-div_iff_mul-le my_pos).1 (le_trans (mul-le-mul_left (2 ^ 24) (le_of_lt Y.few)) n_ge)

  Q_lt : Q < 2 ^ 26
  Q_lt = (div-lt_iff_lt-mul my_pos).1 (lt_of_lt_of_le n-lt (mul-le-mul_left (2 ^ 26) lead))

  pub h_lt : h < 2 ^ 27
  h_lt = let g = Q_lt in omega arith

  h_short : size h ≤ 27
  h_short = size-le h 27 h_lt

  pub h_long : 25 < size h
  h_long = digits_over h 25 (let e = Q_ge in omega arith)

  -- 2 * n / my has the digits of h
  above : 0 < h → 2 ^ (size h - 1) * my ≤ 2 * n
  above p =
      let a : 2 ^ (size h - 1) ≤ h = size_reaches h (size h - 1) (let g = h_long in omega arith) in
      let b : 2 ^ (size h - 1) ≡ 2 * 2 ^ (size h - 1 - 1) = doubled (size h - 1) (let g = h_long in omega arith) in
      let c : 2 ^ (size h - 1 - 1) ≤ Q = half (2 ^ (size h - 1 - 1)) (le_trans (le_of_eq (sym b)) a) in
      le_trans (le_of_eq (ap (λ (i : ℕ). i * my) b ∙ mul_assoc 2 (2 ^ (size h - 1 - 1)) my)) (mul-le-mul_left 2 (le_trans (mul-le-mul_right my c) (div-mul-le_self n my)))
    where
      half : (u : ℕ) → 2 * u ≤ h → u ≤ Q
      half u g = omega arith

  under : 2 * n < 2 ^ size h * my
  under =
      let b : 2 ^ size h ≡ 2 * 2 ^ (size h - 1) = doubled (size h) (let g = h_long in omega arith) in
      let c : Q < 2 ^ (size h - 1) = half (2 ^ (size h - 1)) (lt_of_lt_of_le (size-lt h) (le_of_eq b)) in
      lt_of_lt_of_le (twice n (2 ^ (size h - 1) * my) ((div-lt_iff_lt-mul my_pos).0 c)) (le_of_eq (sym (mul_assoc 2 (2 ^ (size h - 1)) my) ∙ ap (λ (i : ℕ). i * my) (sym b)))
    where
      half : (u : ℕ) → h < 2 * u → Q < u
      half u g = omega arith

      twice : (a c : ℕ) → a < c → 2 * a < 2 * c
      twice a c g = omega arith

  module _ (order : ex + 59 ≤ ey + raise) (finite : ey ≤ 254) where
    abbrev T' : ℕ
    T' = ey + raise - (ex + 59)

    abbrev s : ℕ
    s = dropped h T'

    s_ge : 2 ≤ s
    s_ge = let g = h_long in omega arith

    alike : closest (2 * n) (my * 2 ^ s) ≡ closest h (2 ^ s)
    alike =
        closest_same (2 * n) (my * 2 ^ s) n (my * 2 ^ (s - 1)) (mul-pos my_pos (pow_pos s)) (mul-pos my_pos (pow_pos (s - 1))) same
        ∙ by_halves n my (s - 1) my_pos (left s s_ge)
        ∙ ap (λ (i : ℕ). closest h (2 ^ i)) (back s s_ge)
      where
        some : (i : ℕ) → 2 ≤ i → 0 < i
        some i g = omega arith

        same : 2 * n * (my * 2 ^ (s - 1)) ≡ n * (my * 2 ^ s)
        same = rw (doubled s (some s s_ge)) (simp (mul_assoc, mul_comm, mul_left_comm))

        left : (i : ℕ) → 2 ≤ i → 0 < i - 1
        left i g = omega arith

        back : (i : ℕ) → 2 ≤ i → i - 1 + 1 ≡ i
        back i g = omega arith

    -- the two fractions are equal
    cross : mx * 2 ^ (ex - 1) * 2 ^ 149 * (my * 2 ^ (T' - 64 + 149)) ≡ 2 * n * 2 ^ (64 - T') * (2 ^ 149 * (my * 2 ^ (ey - 1)))
    cross = left ∙ ap (λ (i : ℕ). mx * my * 2 ^ i) exps ∙ sym right
      where
        left : mx * 2 ^ (ex - 1) * 2 ^ 149 * (my * 2 ^ (T' - 64 + 149)) ≡ mx * my * 2 ^ (ex - 1 + 149 + (T' - 64 + 149))
        left = rw (pow-add 2 (ex - 1 + 149) (T' - 64 + 149), pow-add 2 (ex - 1) 149) (simp (mul_assoc, mul_comm, mul_left_comm))

        right : 2 * n * 2 ^ (64 - T') * (2 ^ 149 * (my * 2 ^ (ey - 1))) ≡ mx * my * 2 ^ suc (raise + 25 + (64 - T') + (149 + (ey - 1)))
        right = rw (pow-succ' 2 (raise + 25 + (64 - T') + (149 + (ey - 1))), pow-add 2 (raise + 25 + (64 - T')) (149 + (ey - 1)), pow-add 2 (raise + 25) (64 - T'), pow-add 2 149 (ey - 1)) (simp (mul_assoc, mul_comm, mul_left_comm))

        sums : (a b u t : ℕ) → 1 ≤ a → 1 ≤ b → a + 59 + t ≡ b + u → a - 1 + 149 + (t - 64 + 149) ≡ suc (u + 25 + (64 - t) + (149 + (b - 1)))
        sums a b u t f g e = omega arith

        whole : (a c : ℕ) → a ≤ c → a + (c - a) ≡ c
        whole a c g = omega arith

        exps : ex - 1 + 149 + (T' - 64 + 149) ≡ suc (raise + 25 + (64 - T') + (149 + (ey - 1)))
        exps = sums ex ey raise T' (exponent_pos (to_bits binary32 x)) (exponent_pos (to_bits binary32 y)) (whole (ex + 59) (ey + raise) order)

    pub quotient_is : of_bits binary32 (pattern h T') ≡ x /f y
    quotient_is =
        packs h T' (2 * n) my my_pos (let g = h_short in omega arith) (let g = zeros_le in omega arith) (let g = h_long in omega arith) above under alike
        ∙ sym (round_same binary32 false (mx * 2 ^ (ex - 1) * 2 ^ 149) (2 ^ 149 * (my * 2 ^ (ey - 1))) (2 * n * 2 ^ (64 - T')) (my * 2 ^ (T' - 64 + 149)) (mul-pos (pow_pos 149) (mul-pos my_pos (pow_pos (ey - 1)))) (mul-pos my_pos (pow_pos (T' - 64 + 149))) cross)
        ∙ sym (div_at binary32 x y (mx * 2 ^ (ex - 1)) (2 ^ 149) (my * 2 ^ (ey - 1)) (2 ^ 149) X.plus Y.plus (pow_pos 149) (pow_pos 149) (mul-pos my_pos (pow_pos (ey - 1))) X.is Y.is)
