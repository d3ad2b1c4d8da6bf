-- `square_root` of a positive value of binary32 is the value of the format that is nearest to the exact root. Assumes nothing.
use Rattle.std.proofs.Common.{◌≡◌, ℕ, zero, suc, ◌+◌, ◌-◌, ◌*◌, ◌/◌, ◌%◌, ◌^◌, ◌<◌, ◌≤◌, Bool, true, false, ◌&&◌, T, eqb, ltb, leb, ℤ, pos, negsuc, sym, refl, ap, ◌∙◌, subst, inl, inr, le_trans, le_of_eq, lt_of_lt_of_le, lt_of_le_of_lt, le_of_lt, lt_irrefl, mul-le-mul_right, zero-lt-suc, mul_assoc, add-mul, mul-le-mul, lt_of_mul-lt-mul_right, eq-or-lt_of_le, mul-lt-mul_of_pos_right, mul-pos, lt_of_not-le, mul-one, mul_right_comm, not-le_of_lt, arith, lit<, ltb→lt, leb→le, pow_pos, pow_mono, pow-add, shl_lt}
use native.Mathlib.Nat.{eq_of_mul-eq-mul_right}
use lib.Arith.{lt_of_le-ne}
use lib.Ieee.{Float, nan, inf, fin, binary32, up, down, size, units, fits}
use lib.Ieee.Digits.{size-lt, size-le, size_reaches}
use lib.Ieee.Exact.{HasValue, units_val}
use lib.Ieee.Fits.{and_l, and_r}
use lib.Ieee.Positive.{positive, den, den_pos, value→cross, positive_of_value}
use Rattle.float.specs.Root.{square_root, whole_root, NearestRoot}
use Rattle.float.specs.RootSteps.{Scaled}
use Rattle.float.proofs.Numbers.{root-lt, rounds, square_lt, sq_mul, pow_lt_cancel, pow-le_cancel, here_or_on}
use Rattle.float.proofs.Rounding.{wide_le}
use Rattle.float.proofs.Roots.{whole_root_is, never, root_of_lem}
use Rattle.float.proofs.Patterns.{sqrt_of_value, four, X_ge, X_lt, split}

abbrev U : ℕ
U = 2 ^ 149

-- ---- a value that fits is m * 2 ^ j units, with m of at most 24 digits
place : (m : ℕ) (e : ℤ) → down e ≤ U → (j : ℕ) × (m * up e * U ≡ m * 2 ^ j * down e)
place m (pos a) h = (a + 149, mul_assoc m (2 ^ a) U ∙ ap (λ (x : ℕ). m * x) (sym (pow-add 2 a 149)) ∙ sym (mul-one (m * 2 ^ (a + 149))))
place m (negsuc a) h = (
  149 - suc a,
  ap (λ (x : ℕ). x * U) (mul-one m)
      ∙ ap (λ (x : ℕ). m * x) (ap (λ (x : ℕ). 2 ^ x) (whole (pow-le_cancel h)) ∙ pow-add 2 (149 - suc a) (suc a))
      ∙ sym (mul_assoc m (2 ^ (149 - suc a)) (2 ^ suc a)),
)
  where
    whole : suc a ≤ 149 → 149 ≡ 149 - suc a + suc a
    whole g = omega arith

pub record Units (x : Float) : Type 0 where
  pub m : ℕ
  pub j : ℕ
  pub some : 0 < m
  pub few : m < 2 ^ 24
  pub is : HasValue x false (m * 2 ^ j) U
  pub under : m * 2 ^ j < 2 ^ 277

pub units_of : (x : Float) → T (fits binary32 x) → T (positive x) → Units x
unfolding fits
units_of nan F p = absurd p
units_of (inf s) F p = absurd p
units_of (fin true m e) F p = absurd p
units_of (fin false zero e) F p = absurd (lt_irrefl 0 (ltb→lt 0 0 p))
units_of (fin false (suc m) e) F p =
    let a : Bool = eqb (suc m % 2) 1 in
    let b : Bool = ltb (suc m) (2 ^ 24) in
    let c : Bool = leb (down e) U in
    let d : Bool = ltb (suc m * up e) (2 ^ 128 * down e) in
    let at = place (suc m) e (leb→le (down e) U (and_r (a && b) c (and_l (a && b && c) d F))) in
    let top : suc m * up e < 2 ^ 128 * down e = ltb→lt (suc m * up e) (2 ^ 128 * down e) (and_r (a && b && c) d F) in
    record {
      m = suc m;
      j = at.0;
      some = zero-lt-suc m;
      few = ltb→lt (suc m) (2 ^ 24) (and_r a b (and_l (a && b) c (and_l (a && b && c) d F)));
      is = (refl, at.1);
      under = lt_of_mul-lt-mul_right (down e) (lt_of_le_of_lt (le_of_eq (sym at.1)) (lt_of_lt_of_le (mul-lt-mul_of_pos_right top (pow_pos 149)) (le_of_eq (mul_right_comm (2 ^ 128) (down e) U))));
    }

-- ---- twice a root is no odd number
strict : (X q : ℕ) → 0 < q → (2 * q - 1) * (2 * q - 1) ≤ 4 * X → (2 * q - 1) * (2 * q - 1) < 4 * X
strict X q p h = lt_of_le-ne h (λ (e : (2 * q - 1) * (2 * q - 1) ≡ 4 * X). never (q - 1) X (sym e ∙ ap (λ (x : ℕ). x * x) odd))
  where
    odd : 2 * q - 1 ≡ 2 * (q - 1) + 1
    odd = omega arith

-- ---- the root's significand and exponent
module _ (x : Float) (g : Units x) where
  abbrev z : ℕ
  z = size g.m

  z_le : z ≤ 24
  z_le = size-le g.m 24 g.few

  z_ge : 1 ≤ z
  z_ge = lt_of_not-le (λ (n : z ≤ 0). not-le_of_lt (lt_of_lt_of_le (size-lt g.m) (pow_mono n)) g.some)

  top : 2 ^ (z - 1) ≤ g.m
  top = size_reaches g.m (z - 1) (let h = z_ge in omega arith)

  abbrev sig : ℕ
  sig = g.m * 2 ^ (24 - z)

  abbrev e' : ℕ
  e' = g.j + 104 + z

  last : z - 1 + g.j < 277
  last = pow_lt_cancel (lt_of_le_of_lt (le_trans (le_of_eq (pow-add 2 (z - 1) g.j)) (mul-le-mul_right (2 ^ g.j) top)) g.under)

  pre : Scaled sig e'
  pre =
      let a = z_le in
      let b = z_ge in
      let c = last in (
        le_trans (le_of_eq (ap (λ (i : ℕ). 2 ^ i) lower ∙ pow-add 2 (z - 1) (24 - z))) (mul-le-mul_right (2 ^ (24 - z)) top),
        lt_of_lt_of_le (shl_lt z (24 - z) (size-lt g.m)) (le_of_eq (ap (λ (i : ℕ). 2 ^ i) upper)),
        omega arith,
        omega arith,
      )
    where
      lower : 23 ≡ z - 1 + (24 - z)
      lower = let a = z_le in let b = z_ge in omega arith

      upper : z + (24 - z) ≡ 24
      upper = let a = z_le in omega arith

  abbrev k : ℕ
  k = e' / 2 - 1

  abbrev X : ℕ
  X = sig * 2 ^ (23 + e' % 2)

  abbrev q : ℕ
  q = (whole_root (4 * X) + 1) / 2

  N_is : g.m * 2 ^ g.j * U ≡ X * (2 ^ k * 2 ^ k)
  N_is =
      mul_assoc g.m (2 ^ g.j) U
      ∙ ap (λ (i : ℕ). g.m * i) (sym (pow-add 2 g.j 149) ∙ ap (λ (i : ℕ). 2 ^ i) exps ∙ pow-add 2 (24 - z) (21 + e'))
      ∙ sym (mul_assoc g.m (2 ^ (24 - z)) (2 ^ (21 + e')))
      ∙ split sig e' pre
    where
      exps : g.j + 149 ≡ 24 - z + (21 + e')
      exps = let a = z_le in omega arith

  near : ((2 * q - 1) * (2 * q - 1) ≤ 4 * X) × (4 * X < (2 * q + 1) * (2 * q + 1))
  near = rounds (4 * X) (whole_root (4 * X)) (whole_root_is (4 * X))

  q_ge : 2 ^ 23 ≤ q
  q_ge = let h : 2 ^ 24 < 2 * q + 1 = root-lt (2 ^ 24) (2 * q + 1) (lt_of_le_of_lt least near.1) in omega arith
    where
      least : 2 ^ 24 * 2 ^ 24 ≤ 4 * X
      least = let h = X_ge sig e' pre in omega arith

  q_lt : q < 2 ^ 24
  q_lt = let h : 2 * q - 1 < 2 ^ 25 - 1 = root-lt (2 * q - 1) (2 ^ 25 - 1) (lt_of_le_of_lt near.0 (lt_of_le_of_lt (le_trans (le_of_eq (four sig e' pre)) (wide_le sig e' pre)) (lit< tt))) in omega arith

  below : (2 * q - 1) * (2 * q - 1) < 4 * X
  below = strict X q (let h = q_ge in omega arith) near.0

  root_is : square_root x ≡ units binary32 false q k
  root_is = sqrt_of_value x (g.m * 2 ^ g.j) g.is (mul-pos g.some (pow_pos g.j)) ∙ root_of_lem (g.m * 2 ^ g.j) X k q N_is (X_ge sig e' pre) (X_lt sig e' pre) near.0 near.1

  r_is : HasValue (square_root x) false (q * 2 ^ k) U
  r_is = subst (λ (w : Float). HasValue w false (q * 2 ^ k) U) (sym root_is) (units_val binary32 false q k (lt_of_lt_of_le (shl_lt 24 k q_lt) (pow_mono {i = 24 + k} {j = 277} (let a = pre.3 in omega arith))))

-- ---- from 2 ^ 23 * 2 ^ k units up the values are multiples of 2 ^ k units
same_value : (y : Float) (a b : ℕ) → HasValue y false a U → HasValue y false b U → a ≡ b
same_value y a b h i = eq_of_mul-eq-mul_right (den y) (den_pos y) a b (sym (value→cross y a U h) ∙ value→cross y b U i)

multiple : (y : Float) (c k : ℕ) → T (fits binary32 y) → HasValue y false c U → 2 ^ 23 * 2 ^ k < c → (d : ℕ) × (c ≡ d * 2 ^ k)
multiple y c k F h l =
    let g : Units y = units_of y F (positive_of_value y c U h (lt_of_le_of_lt none l)) in
    let e : c ≡ g.m * 2 ^ g.j = same_value y c (g.m * 2 ^ g.j) h g.is in
    let t : 23 + k < 24 + g.j = pow_lt_cancel (lt_of_le_of_lt (le_of_eq (pow-add 2 23 k)) (lt_of_lt_of_le l (le_trans (le_of_eq e) (le_of_lt (shl_lt 24 g.j g.few))))) in
    let f : g.j - k + k ≡ g.j = omega arith in
    (g.m * 2 ^ (g.j - k), e ∙ ap (λ (i : ℕ). g.m * 2 ^ i) (sym f) ∙ ap (λ (i : ℕ). g.m * i) (pow-add 2 (g.j - k) k) ∙ sym (mul_assoc g.m (2 ^ (g.j - k)) (2 ^ k)))
  where
    none : 0 ≤ 2 ^ 23 * 2 ^ k
    none = omega arith

module _ (y : Float) (c k q : ℕ) (F : T (fits binary32 y)) (h : HasValue y false c U) (q_ge : 2 ^ 23 ≤ q) where
  -- the next value above q * 2 ^ k is at least one step away
  next : q * 2 ^ k < c → (q + 1) * 2 ^ k ≤ c
  next l =
      let d = multiple y c k F h (lt_of_le_of_lt (mul-le-mul_right (2 ^ k) q_ge) l) in
      let m : q < d.0 = lt_of_mul-lt-mul_right (2 ^ k) (lt_of_lt_of_le l (le_of_eq d.1)) in
      le_trans (mul-le-mul_right (2 ^ k) (more d.0 m)) (le_of_eq (sym d.1))
    where
      more : (i : ℕ) → q < i → q + 1 ≤ i
      more i g = omega arith

  -- and so is the next one below, where q is not the least significand
  previous : 2 ^ 23 < q → c < q * 2 ^ k → c ≤ (q - 1) * 2 ^ k
  previous f l = elim (here_or_on (2 ^ 23 * 2 ^ k) c) [
    | inl g ↦
        let d = multiple y c k F h g in
        let m : d.0 < q = lt_of_mul-lt-mul_right (2 ^ k) (lt_of_le_of_lt (le_of_eq (sym d.1)) l) in
        le_trans (le_of_eq d.1) (mul-le-mul_right (2 ^ k) (less d.0 m))
    | inr g ↦ le_trans g (mul-le-mul_right (2 ^ k) (less (2 ^ 23) f))
  ]
    where
      less : (i : ℕ) → i < q → i ≤ q - 1
      less i g = omega arith

-- ---- the theorem
module _ (x : Float) (g : Units x) (y : Float) (c : ℕ) (F : T (fits binary32 y)) (h : HasValue y false c U) where
  abbrev Q : ℕ
  Q = q x g

  abbrev K : ℕ
  K = k x g

  -- 4 * N over 4 ^ K
  four_N : 4 * (g.m * 2 ^ g.j * U) ≡ 4 * X x g * (2 ^ K * 2 ^ K)
  four_N = ap (λ (i : ℕ). 4 * i) (N_is x g) ∙ sym (mul_assoc 4 (X x g) (2 ^ K * 2 ^ K))

  PP : 0 < 2 ^ K * 2 ^ K
  PP = mul-pos (pow_pos K) (pow_pos K)

  over : Q * 2 ^ K < c → 4 * (g.m * 2 ^ g.j * U) < (Q * 2 ^ K + c) * (Q * 2 ^ K + c)
  over l =
      lt_of_le_of_lt (le_of_eq four_N)
      (lt_of_lt_of_le (mul-lt-mul_of_pos_right (near x g).1 PP)
      (le_trans (le_of_eq (sym (sq_mul (2 * Q + 1) (2 ^ K)))) (mul-le-mul step step)))
    where
      step : (2 * Q + 1) * 2 ^ K ≤ Q * 2 ^ K + c
      step = let n = next y c K Q F h (q_ge x g) l in omega (arith, add-mul Q 1 (2 ^ K), add-mul (2 * Q) 1 (2 ^ K), mul_assoc 2 Q (2 ^ K))

  under : c < Q * 2 ^ K → (Q * 2 ^ K + c) * (Q * 2 ^ K + c) < 4 * (g.m * 2 ^ g.j * U)
  under l = elim (eq-or-lt_of_le (q_ge x g)) [ inl e ↦ least e | inr f ↦ more f ]
    where
      step : 2 ^ 23 < Q → Q * 2 ^ K + c ≤ (2 * Q - 1) * 2 ^ K
      step f =
          let p = previous y c K Q F h (q_ge x g) f l in
          let t : Q + (Q - 1) ≡ 2 * Q - 1 = omega arith in
          subst (λ (i : ℕ). Q * 2 ^ K + c ≤ i * 2 ^ K) t (omega (arith, add-mul Q (Q - 1) (2 ^ K)))

      -- q is the least significand: the root is no less than r
      least : 2 ^ 23 ≡ Q → (Q * 2 ^ K + c) * (Q * 2 ^ K + c) < 4 * (g.m * 2 ^ g.j * U)
      least e =
          let s : Q * 2 ^ K + c < 2 * Q * 2 ^ K = omega (arith, mul_assoc 2 Q (2 ^ K)) in
          let t : 2 * Q * (2 * Q) ≤ 4 * X x g = le_trans (le_of_eq (ap (λ (i : ℕ). 2 * i * (2 * i)) (sym e))) (let b = X_ge (sig x g) (e' x g) (pre x g) in omega arith) in
          lt_of_lt_of_le (square_lt (Q * 2 ^ K + c) (2 * Q * 2 ^ K) s) (le_trans (le_of_eq (sq_mul (2 * Q) (2 ^ K))) (le_trans (mul-le-mul_right (2 ^ K * 2 ^ K) t) (le_of_eq (sym four_N))))

      more : 2 ^ 23 < Q → (Q * 2 ^ K + c) * (Q * 2 ^ K + c) < 4 * (g.m * 2 ^ g.j * U)
      more f =
          lt_of_le_of_lt (mul-le-mul (step f) (step f))
          (lt_of_le_of_lt (le_of_eq (sq_mul (2 * Q - 1) (2 ^ K)))
          (lt_of_lt_of_le (mul-lt-mul_of_pos_right (below x g) PP) (le_of_eq (sym four_N))))

pub nearest_root : (x : Float) → T (fits binary32 x) → T (positive x) → NearestRoot x (square_root x)
nearest_root x F p =
    let g = units_of x F p in
    record {
      n = g.m * 2 ^ g.j;
      a = q x g * 2 ^ k x g;
      x_is = g.is;
      r_is = r_is x g;
      from_above = λ y c f h. over x g y c f h;
      from_below = λ y c f h. under x g y c f h;
    }
