-- `whole_root` is the whole-number root, and `root_of` rounds the exact root to the nearest. Assumes nothing.
use Rattle.std.proofs.Common.{◌≡◌, ℕ, zero, suc, ◌+◌, ◌-◌, ◌*◌, ◌/◌, ◌^◌, ◌<◌, ◌≤◌, Bool, true, false, cond, not, T, eqb, leb, sym, refl, ap, ◌∙◌, subst, zero-le, le_trans, le_of_eq, le_refl, lt_of_lt_of_le, lt_of_le_of_lt, le_of_lt, mul-le-mul_right, mul_assoc, lt-suc_self, div-lt_iff_lt-mul, add-mul, mul-le-mul, lt_of_mul-lt-mul_right, mul-pos, lt_of_not-le, not-le_of_lt, div-mul-le_self, le_of_mul-le-mul_right, arith, eqb→eq, leb→le, pow_pos, pow_mono, pow-add}
use Prim.Native.Nat.{compare, Ordering}
use native.Mathlib.Nat.{two-pow-succ, eq_of_mul-eq-mul_right}
use lib.Dec.{is_le, compare_is_eq, nleb→lt, eqb_refl}
use lib.Arith.{lt_of_le-ne}
use lib.Ieee.{Float, binary32, size, nearest, units}
use lib.Ieee.Digits.{size-lt, size-le}
use Rattle.float.specs.Root.{Root, raised, root_in, whole_root, root_of}
use Rattle.float.proofs.Numbers.{root-lt, sq_mul}

-- ---- squares

sq_two : (a : ℕ) → 2 * a * (2 * a) ≡ 4 * (a * a)
sq_two a = sq_mul 2 a

-- ---- `whole_root`

two_suc : (p : ℕ) → (p + p) * (p + p) ≡ 4 * (p * p)
two_suc p = ap (λ (x : ℕ). x * x) (double p) ∙ sq_two p
  where
    double : (x : ℕ) → x + x ≡ 2 * x
    double x = omega arith

root_step : (n r : ℕ) → Root (n / 4) r → Root n (raised n (2 * r))
root_step n r h = go (leb (suc (2 * r) * suc (2 * r)) n) (leb→le (suc (2 * r) * suc (2 * r)) n) (nleb→lt (suc (2 * r) * suc (2 * r)) n)
  where
    next : (a : ℕ) → suc (2 * a) + 1 ≡ 2 * (a + 1)
    next a = omega arith

    one : (a : ℕ) → suc (2 * a) ≡ 2 * a + 1
    one a = omega arith

    go : (b : Bool) → (T b → suc (2 * r) * suc (2 * r) ≤ n) → (T (not b) → n < suc (2 * r) * suc (2 * r)) → Root n (cond b (suc (2 * r)) (2 * r))
    go true a c =
        (a tt, subst (λ (x : ℕ). n < x * x) (sym (next r)) (rw sq_two (let u = h.1 in omega arith)))
    go false a c =
        (rw sq_two (let l = h.0 in omega arith), subst (λ (x : ℕ). n < x * x) (one r) (c tt))

root_in_lem : (d n : ℕ) → n < 2 ^ d * 2 ^ d → Root n (root_in d n)
unfolding root_in
root_in_lem zero n h = (zero-le, h)
root_in_lem (suc d) n h = root_step n (root_in d (n / 4)) (root_in_lem d (n / 4) (quarter n (2 ^ d * 2 ^ d) (subst (λ (x : ℕ). n < x) (ap (λ (x : ℕ). x * x) (two-pow-succ d) ∙ two_suc (2 ^ d)) h)))
  where
    quarter : (a p : ℕ) → a < 4 * p → a / 4 < p
    quarter a p g = omega arith

pub whole_root_is : (n : ℕ) → Root n (whole_root n)
unfolding whole_root
whole_root_is n = root_in_lem (size n) n (lt_of_lt_of_le (size-lt n) (le_trans (le_of_eq (one (2 ^ size n))) (mul-le-mul {m₁ = 1} (le_refl (2 ^ size n)) (pow_pos (size n)))))
  where
    one : (x : ℕ) → x ≡ x * 1
    one x = omega arith

-- ---- what `compare` says (as in `lib.Ieee.Nearest`, where it is not public)
abbrev pub Cmp : Ordering → ℕ → ℕ → Type 0
Cmp Ordering.lt a b = a < b
Cmp Ordering.eq a b = a ≡ b
Cmp Ordering.gt a b = b < a

pub cmp : (a b : ℕ) → Cmp (compare a b) a b
cmp a b = go (compare a b) (leb→le a b) (nleb→lt a b) (eqb→eq a b) (λ (e : a ≡ b). subst (λ (x : ℕ). T (eqb a x)) e (eqb_refl a))
  where
    go : (o : Ordering) → (T (is_le o) → a ≤ b) → (T (not (is_le o)) → b < a) → (T (compare_is_eq o) → a ≡ b) → (a ≡ b → T (compare_is_eq o)) → Cmp o a b
    go Ordering.lt h k e n = lt_of_le-ne (h tt) n
    go Ordering.eq h k e n = e tt
    go Ordering.gt h k e n = k tt

-- a tie does not happen: 4 times a whole number is no odd square
pub never : (a x : ℕ) → 4 * x ≡ (2 * a + 1) * (2 * a + 1) → ⊥
never a x e = omega (arith, add-mul (2 * a) 1 (2 * a + 1) ∙ ap (λ (z : ℕ). z + 1 * (2 * a + 1)) (mul_assoc 2 a (2 * a + 1)))

-- ---- `root_of` at N = X * 4 ^ k, for an X of 47 or 48 bits: q is the whole number nearest to the root of X
module _ (X k R : ℕ) (lo : 2 ^ 46 ≤ X) (hi : X < 2 ^ 48) (is : Root (X * (2 ^ k * 2 ^ k)) R) where
  abbrev q0 : ℕ
  q0 = R / 2 ^ k

  PP : 0 < 2 ^ k * 2 ^ k
  PP = mul-pos (pow_pos k) (pow_pos k)

  -- R / 2 ^ k is the whole-number root of X
  cut_below : q0 * q0 ≤ X
  cut_below = le_of_mul-le-mul_right (le_trans (le_of_eq (sym (sq_mul q0 (2 ^ k)))) (le_trans (mul-le-mul d d) is.0)) PP
    where
      d : q0 * 2 ^ k ≤ R
      d = div-mul-le_self R (2 ^ k)

  cut_above : X < (q0 + 1) * (q0 + 1)
  cut_above = lt_of_mul-lt-mul_right (2 ^ k * 2 ^ k) (lt_of_lt_of_le is.1 (le_trans (mul-le-mul d d) (le_of_eq (sq_mul (q0 + 1) (2 ^ k)))))
    where
      d : R + 1 ≤ (q0 + 1) * 2 ^ k
      d = let h : R < suc q0 * 2 ^ k = (div-lt_iff_lt-mul (pow_pos k)).0 (lt-suc_self q0) in omega arith

  q0_ge : 2 ^ 23 < q0 + 1
  q0_ge = root-lt (2 ^ 23) (q0 + 1) (lt_of_le_of_lt lo cut_above)

  q0_lt : q0 < 2 ^ 24
  q0_lt = root-lt q0 (2 ^ 24) (lt_of_le_of_lt cut_below hi)

  -- so R has 24 + k digits
  pub dropped : size R - 24 ≡ k
  dropped =
      let a : size R ≤ 24 + k = size-le R (24 + k) (lt_of_lt_of_le ((div-lt_iff_lt-mul (pow_pos k)).0 q0_lt) (le_of_eq (sym (pow-add 2 24 k)))) in
      let b : 2 ^ (23 + k) ≤ R = le_trans (le_of_eq (pow-add 2 23 k)) (le_trans (mul-le-mul_right (2 ^ k) (under q0_ge)) (div-mul-le_self R (2 ^ k))) in
      let c : 23 + k < size R = lt_of_not-le (λ (g : size R ≤ 23 + k). not-le_of_lt (lt_of_lt_of_le (size-lt R) (pow_mono g)) b) in
      omega arith
    where
      under : 2 ^ 23 < q0 + 1 → 2 ^ 23 ≤ q0
      under h = omega arith

  module _ (q : ℕ) (below : (2 * q - 1) * (2 * q - 1) ≤ 4 * X) (above : 4 * X < (2 * q + 1) * (2 * q + 1)) where
    abbrev mid : ℕ
    mid = (2 * q0 + 1) * 2 ^ k

    -- the middle and the root, both over 2 ^ k
    four : 4 * (X * (2 ^ k * 2 ^ k)) ≡ 4 * X * (2 ^ k * 2 ^ k)
    four = sym (mul_assoc 4 X (2 ^ k * 2 ^ k))

    pick : (o : Ordering) → Cmp o (4 * (X * (2 ^ k * 2 ^ k))) (mid * mid) → nearest q0 o ≡ q
    pick Ordering.lt c =
        let less : 4 * X < (2 * q0 + 1) * (2 * q0 + 1) = lt_of_mul-lt-mul_right (2 ^ k * 2 ^ k) (lt_of_le_of_lt (le_of_eq (sym four)) (lt_of_lt_of_le c (le_of_eq (sq_mul (2 * q0 + 1) (2 ^ k))))) in
        let a : 2 * q - 1 < 2 * q0 + 1 = root-lt (2 * q - 1) (2 * q0 + 1) (lt_of_le_of_lt below less) in
        let b : 2 * q0 < 2 * q + 1 = root-lt (2 * q0) (2 * q + 1) (lt_of_le_of_lt (rw sq_two (let h = cut_below in omega arith)) above) in
        omega arith
    pick Ordering.eq c = absurd (never q0 X (eq_of_mul-eq-mul_right (2 ^ k * 2 ^ k) PP (4 * X) ((2 * q0 + 1) * (2 * q0 + 1)) (sym four ∙ c ∙ sq_mul (2 * q0 + 1) (2 ^ k))))
    pick Ordering.gt c =
        let more : (2 * q0 + 1) * (2 * q0 + 1) < 4 * X = lt_of_mul-lt-mul_right (2 ^ k * 2 ^ k) (lt_of_le_of_lt (le_of_eq (sym (sq_mul (2 * q0 + 1) (2 ^ k)))) (lt_of_lt_of_le c (le_of_eq four))) in
        let a : 2 * q - 1 < 2 * (q0 + 1) = root-lt (2 * q - 1) (2 * (q0 + 1)) (lt_of_le_of_lt below (rw sq_two (let h = cut_above in omega arith))) in
        let b : 2 * q0 + 1 < 2 * q + 1 = root-lt (2 * q0 + 1) (2 * q + 1) (lt_of_le_of_lt (le_of_lt more) above) in
        omega arith

-- `root_of`, from N and k on
abbrev at : ℕ → ℕ → Float
at N k = units binary32 false (nearest (whole_root N / 2 ^ k) (compare (4 * N) ((2 * (whole_root N / 2 ^ k) + 1) * 2 ^ k * ((2 * (whole_root N / 2 ^ k) + 1) * 2 ^ k)))) k

pub root_of_is : (n : ℕ) → root_of n ≡ at (n * 2 ^ 149) (size (whole_root (n * 2 ^ 149)) - 24)
unfolding root_of
root_of_is n = refl

pub root_of_lem : (n X k q : ℕ) → n * 2 ^ 149 ≡ X * (2 ^ k * 2 ^ k) → 2 ^ 46 ≤ X → X < 2 ^ 48 → (2 * q - 1) * (2 * q - 1) ≤ 4 * X → 4 * X < (2 * q + 1) * (2 * q + 1)
    → root_of n ≡ units binary32 false q k
root_of_lem n X k q e lo hi below above =
    let N = X * (2 ^ k * 2 ^ k) in
    let R = whole_root N in
    root_of_is n
    ∙ ap (λ (x : ℕ). at x (size (whole_root x) - 24)) e
    ∙ ap (λ (x : ℕ). at N x) (dropped X k R lo hi (whole_root_is N))
    ∙ ap (λ (x : ℕ). units binary32 false x k) (pick X k R lo hi (whole_root_is N) q below above (compare (4 * N) ((2 * (R / 2 ^ k) + 1) * 2 ^ k * ((2 * (R / 2 ^ k) + 1) * 2 ^ k))) (cmp (4 * N) ((2 * (R / 2 ^ k) + 1) * 2 ^ k * ((2 * (R / 2 ^ k) + 1) * 2 ^ k))))
