-- What `far` promises of the distance: where it is true, best is above 0 and no more than the distance. So the root is spared where a shape cannot be the nearest.
-- A float u is at hand whose rounded square is below the square S. Rounding keeps the order and S is its own rounding, so u squared is no more than S, exactly.
-- So the float nearest to the root of S is no less than u, and less r it is no less than u less r, which is no less than best. Assumes nothing.
use Rattle.std.proofs.lemmas.Float.{T_from_true}
use mathlib.Core.Path.{◌≡◌, refl, sym, ap, ◌∙◌, subst}
use mathlib.Core.Logic.{inl, inr}
use mathlib.Core.Bool.{Bool, true, false, ◌&&◌, ◌||◌, beq, cond, true≢false, false≢true}
use Prim.Native.Nat.{ℕ, ◌+◌, ◌-◌, ◌*◌, ◌^◌, ◌≤◌, ◌<◌, zero-le}
use native.Mathlib.Nat.{le_refl, le_trans, le_of_lt, le_of_eq, lt_of_le_of_lt, lt_of_lt_of_le, lt_irrefl, eq-zero-or-pos, zero-mul, mul-one, mul_comm, mul_assoc, mul_left_comm, mul_right_comm, mul-mul-mul_comm, mul-le-mul, mul-le-mul_right, le_of_mul-le-mul_right, mul-pos, mul-sub}
use native.Mathlib.Omega.{arith}
use lib.IntN.{ℤ}
use lib.Dec.{T, ltb, eqb, ltb→lt, lt→ltb, eqb→eq}
use lib.Pow.{pow_pos}
use lib.Ieee.{Float, nan, inf, fin, binary32, up, down, round, sum, neg, add, sub, mul, lt, eq, le, fits, is_nan, below, level, of_bits}
use lib.Ieee.Bits.{is_true}
use lib.Ieee.Exact.{HasValue, round_exact}
use lib.Ieee.Fits.{up_pos, and_l, and_r, eq→eqb, add-fits, mul-fits}
use lib.Ieee.Order.{transfer, le_of_values, round_mono}
use lib.Ieee.Positive.{num, den, positive, above, den_pos, own_value, value→cross, first_pos, le→cross, le_trans_positive, above_of_le, through, mul_at}
use borrow.Author.Tests.{le-ltb}
use Rattle.float.specs.Arithmetic.{◌+f◌, ◌-f◌, ◌*f◌, 0f}
use Rattle.float.specs.Order.{greater, lesser}
use Rattle.float.specs.Root.{square_root}
use Rattle.float.proofs.Numbers.{here_or_on, sq_mul}
use Rattle.float.proofs.Nearness.{units_of, nearest_root}
use Rattle.vector.specs.declared.Vec3.{Vec3}
use Rattle.vector.specs.Vector.{vec, zero_vec, minus, absolutes, greaters, length_squared, length_of}
use Rattle.sdf.specs.declared.Shape.{Shape}
use Rattle.sdf.specs.declared.Shape.TheVariants.{Sphere, RoundBox, Plane, Capsule, Torus, Cylinder, Cone}
use Rattle.sdf.specs.Solids.{sphere, round_box, capsule}
use Rattle.sdf.specs.Distance.{dist}
use Rattle.sdf.specs.Beyond.{margin, bound, clears, beyond, far_sphere, far_box, far_capsule, far}

-- ---- tests and the facts that they test

yes : {b : Bool} → b ≡ true → T b
yes e = T_from_true _ e

reached : (a b : ℕ) → T (ltb a b || (eqb a b && true)) → a ≤ b
reached a b = go (ltb a b) (eqb a b) (ltb→lt a b) (eqb→eq a b)
  where
    go : (p q : Bool) → (T p → a < b) → (T q → a ≡ b) → T (p || (q && true)) → a ≤ b
    go true q h k t = le_of_lt (h tt)
    go false true h k t = le_of_eq (k tt)
    go false false h k t = absurd t

-- a product that is 0 has a first factor 0, where the other is above 0
no_factor : (m u : ℕ) → 0 < u → m * u ≡ 0 → m ≡ 0
no_factor m u h e = elim (eq-zero-or-pos m) [ inl z ↦ z | inr p ↦ absurd (lt_irrefl 0 (subst (λ (k : ℕ). 0 < k) e (mul-pos p h))) ]

-- ---- the order of floats

below_not : (s : Bool) (a : ℕ) (t : Bool) (b : ℕ) → T (below s a t b || level s a t b) → below t b s a ≡ false
below_not false a false b h = le-ltb b a (reached a b h)
below_not false a true b h =
    let e : a ≡ b = eqb→eq a b (and_l (eqb a b) (eqb a 0) h) in
    let z : a ≡ 0 = eqb→eq a 0 (and_r (eqb a b) (eqb a 0) h) in
    le-ltb 0 (b + a) (omega arith)
below_not true a false b h = refl
below_not true a true b h = le-ltb a b (back (ltb b a) (eqb a b) (ltb→lt b a) (eqb→eq a b) h)
  where
    back : (p q : Bool) → (T p → b < a) → (T q → a ≡ b) → T (p || (q && true)) → b ≤ a
    back true q h k t = le_of_lt (h tt)
    back false true h k t = le_of_eq (sym (k tt))
    back false false h k t = absurd t

pub le_not_lt : (x y : Float) → le x y ≡ true → lt y x ≡ false
unfolding le
le_not_lt nan y h = absurd (false≢true h)
le_not_lt (inf s) nan h = refl
le_not_lt (inf true) (inf true) h = refl
le_not_lt (inf true) (inf false) h = refl
le_not_lt (inf false) (inf true) h = absurd (false≢true h)
le_not_lt (inf false) (inf false) h = refl
le_not_lt (inf true) (fin t n d) h = refl
le_not_lt (inf false) (fin t n d) h = absurd (false≢true h)
le_not_lt (fin s m e) nan h = refl
le_not_lt (fin s m e) (inf true) h = absurd (false≢true h)
le_not_lt (fin s m e) (inf false) h = refl
le_not_lt (fin s m e) (fin t n d) h = below_not s (m * up e * down d) t (n * up d * down e) (yes h)

le_trans_above : (x y z : Float) → T (above x) → T (le x y) → T (le y z) → T (le x z)
unfolding le
le_trans_above nan y z p h k = absurd p
le_trans_above (inf true) y z p h k = absurd p
le_trans_above (inf false) nan z p h k = absurd h
le_trans_above (inf false) (inf true) z p h k = absurd h
le_trans_above (inf false) (inf false) z p h k = k
le_trans_above (inf false) (fin t n d) z p h k = absurd h
le_trans_above (fin true m e) y z p h k = absurd p
le_trans_above (fin false m e) nan z p h k = absurd h
le_trans_above (fin false m e) (inf true) z p h k = absurd h
le_trans_above (fin false m e) (inf false) nan p h k = absurd k
le_trans_above (fin false m e) (inf false) (inf true) p h k = absurd k
le_trans_above (fin false m e) (inf false) (inf false) p h k = tt
le_trans_above (fin false m e) (inf false) (fin t n d) p h k = absurd k
le_trans_above (fin false m e) (fin true n d) z p h k = absurd (above_of_le (fin false m e) (fin true n d) p h)
le_trans_above (fin false m e) (fin false n d) nan p h k = absurd k
le_trans_above (fin false m e) (fin false n d) (inf true) p h k = absurd k
le_trans_above (fin false m e) (fin false n d) (inf false) p h k = tt
le_trans_above (fin false m e) (fin false n d) (fin true l c) p h k = absurd (above_of_le (fin false n d) (fin true l c) (above_of_le (fin false m e) (fin false n d) p h) k)
le_trans_above (fin false m e) (fin false n d) (fin false l c) p h k =
    let q = above_of_le (fin false m e) (fin false n d) p h in
    le_trans_positive (fin false m e) (fin false n d) (fin false l c) p q (above_of_le (fin false n d) (fin false l c) q k) h k

lt-le : (x y : Float) → lt x y ≡ true → T (le x y)
unfolding le
lt-le x y h = rw h tt

positive_above : (x : Float) → T (positive x) → T (above x)
positive_above nan p = absurd p
positive_above (inf s) p = absurd p
positive_above (fin true m e) p = absurd p
positive_above (fin false m e) p = p

le_inf : (x : Float) → T (above x) → T (le x (inf false))
unfolding le
le_inf nan p = absurd p
le_inf (inf true) p = absurd p
le_inf (inf false) p = tt
le_inf (fin s m e) p = tt

above_zero : (x : Float) → lt 0f x ≡ true → T (above x)
unfolding lt of_bits
above_zero nan h = absurd (false≢true h)
above_zero (inf true) h = absurd (false≢true h)
above_zero (inf false) h = tt
above_zero (fin true m e) h = absurd (false≢true h)
above_zero (fin false m e) h =
    lt→ltb 0 m (first_pos m (up e) (first_pos (m * up e) 1 (lt_of_le_of_lt zero-le (ltb→lt (0 * 1 * down e) (m * up e * 1) (yes h)))))

picked : (best d x : Float) → T (above best) → le best d ≡ true → (b : Bool) → lt d x ≡ b → le best (cond b x d) ≡ true
picked best d x p h true k = is_true (le best x) (le_trans_above best d x p (yes h) (lt-le d x k))
picked best d x p h false k = h

le-nan : (x : Float) → le x nan ≡ true → ⊥
unfolding le
le-nan nan h = false≢true h
le-nan (inf s) h = false≢true h
le-nan (fin s m e) h = false≢true h

-- the greater of d and any other float is no less than what d is no less than
pub le_greater : (best d x : Float) → lt 0f best ≡ true → le best d ≡ true → le best (greater d x) ≡ true
unfolding greater is_nan
le_greater best nan x p h = absurd (le-nan best h)
le_greater best (inf s) x p h = picked best (inf s) x (above_zero best p) h _ refl
le_greater best (fin s m e) x p h = picked best (fin s m e) x (above_zero best p) h _ refl

-- ---- a value that fits is its own rounding

unrounded : (x : Float) → T (fits binary32 x) → T (positive x) → HasValue (round binary32 false (num x) (den x)) false (num x) (den x)
unrounded x F p =
    let g = units_of x F p in
    round_exact binary32 false (num x) (den x) g.m g.j (den_pos x) g.few g.under (value→cross x (g.m * 2 ^ g.j) (2 ^ 149) g.is)

-- so it is no more than the rounding of any fraction that it is no more than
le_round : (x : Float) (a c : ℕ) → T (fits binary32 x) → T (positive x) → 0 < c → num x * c ≤ a * den x → T (le x (round binary32 false a c))
le_round x a c F p C h =
    le_trans_above x (round binary32 false (num x) (den x)) (round binary32 false a c) (positive_above x p)
    (le_of_values x (round binary32 false (num x) (den x)) (num x) (den x) (num x) (den x) (den_pos x) (den_pos x) (own_value x p) (unrounded x F p) (le_refl (num x * den x)))
    (round_mono binary32 (num x) (den x) a c (den_pos x) C h)

-- ---- the square of u

square_is : (u : Float) → T (positive u) → u *f u ≡ round binary32 false (num u * num u) (den u * den u)
square_is u p = mul_at binary32 u u (num u) (den u) (num u) (den u) p p (den_pos u) (den_pos u) (own_value u p) (own_value u p)

-- where it is below a float S, rounded, it is no more than S, exactly
square_below : (u S : Float) → T (positive u) → T (fits binary32 S) → T (positive S) → lt (u *f u) S ≡ true → num u * num u * den S ≤ num S * (den u * den u)
square_below u S p F q h = elim (here_or_on (num S * (den u * den u)) (num u * num u * den S)) [
  | inl l ↦
      let k : T (le S (u *f u)) =
      subst (λ (z : Float). T (le S z)) (sym (square_is u p)) (le_round S (num u * num u) (den u * den u) F q (mul-pos (den_pos u) (den_pos u)) (le_of_lt l)) in
      absurd (true≢false (sym h ∙ le_not_lt S (u *f u) (is_true (le S (u *f u)) k)))
  | inr g ↦ g
]

-- ---- floats that are not below 0

-- a number below 0 or -0 that is not below 0 is -0
minus-zero : (m : ℕ) (e : ℤ) → T (le 0f (fin true m e)) → m ≡ 0
unfolding le of_bits
minus-zero m e h =
    no_factor m (up e) (up_pos e) (sym (mul-one (m * up e)) ∙ sym (eqb→eq (0 * 1 * down e) (m * up e * 1) (and_l (eqb (0 * 1 * down e) (m * up e * 1)) (eqb (0 * 1 * down e) 0) h)) ∙ zero-mul (down e))

nothing : (m u v : ℕ) → m ≡ 0 → m * u * v ≡ 0
nothing m u v z = ap (λ (k : ℕ). k * u * v) z ∙ ap (λ (k : ℕ). k * v) (zero-mul u) ∙ zero-mul v

zero_round : round binary32 false 0 1 ≡ 0f
unfolding round of_bits
zero_round = refl

square_not_below : (u : Float) → T (positive u) → T (le 0f (u *f u))
square_not_below u p =
    subst (λ (z : Float). T (le z (u *f u))) zero_round
    (subst (λ (z : Float). T (le (round binary32 false 0 1) z)) (sym (square_is u p))
    (round_mono binary32 0 1 (num u * num u) (den u * den u) (pow_pos 0) (mul-pos (den_pos u) (den_pos u)) (le_trans (le_of_eq (zero-mul (den u * den u))) zero-le)))

-- what lies above one of them is above 0
above_more : (y S : Float) → T (le 0f y) → lt y S ≡ true → T (above S)
unfolding lt le of_bits
above_more nan S h k = absurd h
above_more (inf true) S h k = absurd h
above_more (inf false) nan h k = absurd (false≢true k)
above_more (inf false) (inf t) h k = absurd (false≢true k)
above_more (inf false) (fin t n d) h k = absurd (false≢true k)
above_more (fin s m e) nan h k = absurd (false≢true k)
above_more (fin s m e) (inf true) h k = absurd (false≢true k)
above_more (fin s m e) (inf false) h k = tt
above_more (fin false m e) (fin true n d) h k = absurd (false≢true k)
above_more (fin false m e) (fin false n d) h k = lt→ltb 0 n (first_pos n (up d) (first_pos (n * up d) (down e) (lt_of_le_of_lt zero-le (ltb→lt (m * up e * down d) (n * up d * down e) (yes k)))))
above_more (fin true m e) (fin true n d) h k =
    let z = nothing m (up e) (down d) (minus-zero m e h) in
    let l = ltb→lt (n * up d * down e) (m * up e * down d) (yes k) in
    absurd (lt_irrefl 0 (lt_of_le_of_lt zero-le (lt_of_lt_of_le l (le_of_eq z))))
above_more (fin true m e) (fin false n d) h k =
    let z = nothing m (up e) (down d) (minus-zero m e h) in
    let l = ltb→lt 0 (m * up e * down d + n * up d * down e) (yes k) in
    lt→ltb 0 n (first_pos n (up d) (first_pos (n * up d) (down e) (omega arith)))

-- ---- the root of S is no less than u

too_far : (a c N : ℕ) → a < c → c * c ≤ N → 4 * N < (a + c) * (a + c) → ⊥
too_far a c N l h k =
    let s : a + c ≤ 2 * c = omega arith in
    let g : (a + c) * (a + c) ≤ 4 * (c * c) = le_trans (mul-le-mul s s) (le_of_eq (sq_mul 2 c)) in
    omega arith

root_of_number : (u S : Float) → T (fits binary32 u) → T (positive u) → T (fits binary32 S) → T (positive S) → lt (u *f u) S ≡ true → T (le u (square_root S))
root_of_number u S F p G q h =
    let near = nearest_root S G q in
    let own = nearest_root u F p in
    let c = own.n in
    let U = 2 ^ 149 in
    let squares : c * c * (den u * den u) ≡ num u * num u * (U * U) =
    mul-mul-mul_comm c c (den u) (den u) ∙ ap (λ (k : ℕ). k * k) (sym (value→cross u c U own.x_is)) ∙ mul-mul-mul_comm (num u) U (num u) U in
    let crossed : c * c * U ≤ near.n * (U * U) =
    transfer (c * c) near.n (U * U) U (num u * num u) (num S) (den u * den u) (den S) (mul-pos (den_pos u) (den_pos u)) (den_pos S) squares (sym (value→cross S near.n U near.x_is)) (square_below u S p G q h) in
    let low : c * c ≤ near.n * U = le_of_mul-le-mul_right (le_trans crossed (le_of_eq (sym (mul_assoc near.n U U)))) (pow_pos 149) in
    elim (here_or_on near.a c) [
      | inl l ↦ absurd (too_far near.a c (near.n * U) l low (near.from_above u c F own.x_is l))
      | inr g ↦ le_of_values u (square_root S) c U near.a U (pow_pos 149) (pow_pos 149) own.x_is near.r_is (mul-le-mul_right U g)
    ]

root_of_above : (u S : Float) → T (fits binary32 u) → T (positive u) → T (fits binary32 S) → T (above S) → lt (u *f u) S ≡ true → T (le u (square_root S))
unfolding square_root
root_of_above u nan F p G q h = absurd q
root_of_above u (inf true) F p G q h = absurd q
root_of_above u (inf false) F p G q h = le_inf u (positive_above u p)
root_of_above u (fin true m e) F p G q h = absurd q
root_of_above u (fin false m e) F p G q h = root_of_number u (fin false m e) F p G q h

root_above : (u S : Float) → T (fits binary32 u) → T (positive u) → T (fits binary32 S) → lt (u *f u) S ≡ true → T (le u (square_root S))
root_above u S F p G h = root_of_above u S F p G (above_more (u *f u) S (square_not_below u p) h) h

-- ---- less r

-- a number that is not below 0, -0 among them
abbrev unsigned : Float → Bool
unsigned nan = false
unsigned (inf s) = false
unsigned (fin true m e) = eqb m 0
unsigned (fin false m e) = true

unsigned_of : (r u : Float) → T (positive u) → T (le 0f r) → T (le r u) → T (unsigned r)
unfolding le of_bits
unsigned_of nan u p h k = absurd h
unsigned_of (inf true) u p h k = absurd h
unsigned_of (inf false) nan p h k = absurd p
unsigned_of (inf false) (inf t) p h k = absurd p
unsigned_of (inf false) (fin t n d) p h k = absurd k
unsigned_of (fin true m e) u p h k = eq→eqb (minus-zero m e h)
unsigned_of (fin false m e) u p h k = tt

-- r is no more than u, as fractions
within : (r u : Float) → T (positive u) → T (unsigned r) → T (le r u) → num r * den u ≤ num u * den r
unfolding le
within nan u p q h = absurd q
within (inf s) u p q h = absurd q
within (fin true m e) u p q h = le_trans (le_of_eq (nothing m (up e) (den u) (eqb→eq m 0 q))) zero-le
within (fin false m e) nan p q h = absurd p
within (fin false m e) (inf t) p q h = absurd p
within (fin false m e) (fin true n d) p q h = absurd p
within (fin false m e) (fin false n d) p q h = reached (m * up e * down d) (n * up d * down e) h

same : (a b : ℕ) → b ≡ 0 → a + b ≡ a - b
same a b e = omega arith

less_is : (x r : Float) → T (positive x) → T (unsigned r) → num r * den x ≤ num x * den r → x -f r ≡ round binary32 false (num x * den r - num r * den x) (den x * den r)
unfolding sub add sum neg
less_is nan r p q h = absurd p
less_is (inf s) r p q h = absurd p
less_is (fin true m e) r p q h = absurd p
less_is (fin false m e) nan p q h = absurd q
less_is (fin false m e) (inf t) p q h = absurd q
less_is (fin false m e) (fin true n d) p q h =
    ap (λ (k : ℕ). round binary32 false k (down e * down d)) (same (m * up e * down d) (n * up d * down e) (nothing n (up d) (down e) (eqb→eq n 0 q)))
less_is (fin false m e) (fin false n d) p q h = rw (le-ltb (m * up e * down d) (n * up d * down e) h)

-- x / dx - z / dz ≤ y / dy - z / dz for x / dx ≤ y / dy
grow : (x dx y dy z dz : ℕ) → x * dy ≤ y * dx → (x * dz - z * dx) * (dy * dz) ≤ (y * dz - z * dy) * (dx * dz)
grow x dx y dy z dz h =
    let a : dy * dz * (x * dz) ≤ dx * dz * (y * dz) = simp (mul_assoc, mul_left_comm) (simp (mul_assoc, mul_comm) at (mul-le-mul_right (dz * dz) h)) in
    let b : dy * dz * (z * dx) ≡ dx * dz * (z * dy) = simp (mul_assoc, mul_comm, mul_left_comm) in
    le_trans (le_of_eq (mul_comm (x * dz - z * dx) (dy * dz) ∙ mul-sub (dy * dz) (x * dz) (z * dx)))
    (le_trans (more (dy * dz * (x * dz)) (dy * dz * (z * dx)) (dx * dz * (y * dz)) (dx * dz * (z * dy)) a b)
    (le_of_eq (sym (mul_comm (y * dz - z * dy) (dx * dz) ∙ mul-sub (dx * dz) (y * dz) (z * dy)))))
  where
    more : (p q r s : ℕ) → p ≤ r → q ≡ s → p - q ≤ r - s
    more p q r s l e = omega arith

less_keeps : (u l r : Float) → T (positive u) → T (positive l) → T (unsigned r) → T (le r u) → T (le u l) → T (le (u -f r) (l -f r))
less_keeps u l r p q n h k =
    let a = within r u p n h in
    let g = le→cross u l p q k in
    let b : num r * den l ≤ num l * den r = through (num r) (num u) (num l) (den r) (den u) (den l) (den_pos u) a g in
    subst (λ (z : Float). T (le z (l -f r))) (sym (less_is u r p n a))
    (subst (λ (z : Float). T (le (round binary32 false (num u * den r - num r * den u) (den u * den r)) z)) (sym (less_is l r q n b))
    (round_mono binary32 (num u * den r - num r * den u) (den u * den r) (num l * den r - num r * den l) (den l * den r) (mul-pos (den_pos u) (den_pos r)) (mul-pos (den_pos l) (den_pos r))
    (grow (num u) (den u) (num l) (den l) (num r) (den r) g)))

endless : (best r : Float) → T (above best) → T (unsigned r) → T (le best (inf false -f r))
unfolding sub add neg
endless best nan b n = absurd n
endless best (inf s) b n = absurd n
endless best (fin s m e) b n = le_inf best b

-- what is no more than u less r is no more than l less r, for an l from u on
less_on : (best u l r : Float) → T (above best) → T (positive u) → T (above l) → T (unsigned r) → T (le r u) → T (le best (u -f r)) → T (le u l) → T (le best (l -f r))
less_on best u nan r b p q n h k g = absurd q
less_on best u (inf true) r b p q n h k g = absurd q
less_on best u (inf false) r b p q n h k g = endless best r b n
less_on best u (fin true m e) r b p q n h k g = absurd q
less_on best u (fin false m e) r b p q n h k g = le_trans_above best (u -f r) (fin false m e -f r) b k (less_keeps u (fin false m e) r p q n h g)

-- ---- the test

positive_of : (u S : Float) → T (above u) → lt (u *f u) S ≡ true → T (positive u)
unfolding mul lt
positive_of nan S p h = absurd p
positive_of (inf true) S p h = absurd p
positive_of (inf false) nan p h = absurd (false≢true h)
positive_of (inf false) (inf t) p h = absurd (false≢true h)
positive_of (inf false) (fin t n d) p h = absurd (false≢true h)
positive_of (fin true m e) S p h = absurd p
positive_of (fin false m e) S p h = p

best_above : (S r best u : Float) → clears S r best u ≡ true → lt 0f best ≡ true
unfolding clears
best_above S r best u h =
    let c1 = lt 0f best in
    let c2 = c1 && le 0f r in
    let c3 = c2 && lt 0f u in
    let c4 = c3 && le r u in
    is_true c1 (and_l c1 (le 0f r) (and_l c2 (lt 0f u) (and_l c3 (le r u) (and_l c4 (le best (u -f r)) (and_l (c4 && le best (u -f r)) (lt (u *f u) S) (yes h))))))

-- where it passes with some u that fits, best is no more than l less r, for any l that is no less than u where the root of S is
cleared : (S r best u l : Float) → T (fits binary32 S) → T (fits binary32 u) → (T (le u (square_root S)) → T (positive u) → T (le u l)) → clears S r best u ≡ true → le best (l -f r) ≡ true
unfolding clears
cleared S r best u l F G f h =
    let c1 = lt 0f best in
    let c2 = c1 && le 0f r in
    let c3 = c2 && lt 0f u in
    let c4 = c3 && le r u in
    let c5 = c4 && le best (u -f r) in
    let h5 = and_l c5 (lt (u *f u) S) (yes h) in
    let h4 = and_l c4 (le best (u -f r)) h5 in
    let h3 = and_l c3 (le r u) h4 in
    let h2 = and_l c2 (lt 0f u) h3 in
    let less : lt (u *f u) S ≡ true = is_true (lt (u *f u) S) (and_r c5 (lt (u *f u) S) (yes h)) in
    let p : T (positive u) = positive_of u S (above_zero u (is_true (lt 0f u) (and_r c2 (lt 0f u) h3))) less in
    let b : T (above best) = above_zero best (best_above S r best u h) in
    let in-u : T (le r u) = and_r c3 (le r u) h4 in
    let n : T (unsigned r) = unsigned_of r u p (and_r c1 (le 0f r) h2) in-u in
    let on : T (le u l) = f (root_above u S G p F less) p in
    is_true (le best (l -f r)) (less_on best u l r b p (above_of_le u l p on) n in-u (and_r c4 (le best (u -f r)) h5) on)

bound_fits : (r best : Float) → T (fits binary32 (bound r best))
unfolding bound
bound_fits r best = mul-fits binary32 (best +f r) margin

-- `beyond` says so of the root of S
beyond_root : (S r best : Float) → T (fits binary32 S) → beyond S r best ≡ true → le best (square_root S -f r) ≡ true
unfolding beyond
beyond_root S r best F h = cleared S r best (bound r best) (square_root S) F (bound_fits r best) (λ g p. g) h

-- ---- a zero added to the root of a box

abbrev is_zero : Float → Bool
is_zero nan = false
is_zero (inf s) = false
is_zero (fin s m e) = eqb m 0

-- where a float is not below 0, the lesser of it and 0 is a zero
zero_picked : (s : Bool) (m : ℕ) (e : ℤ) (b : Bool) → T (b || eq 0f (fin s m e)) → T (is_zero (cond b 0f (fin s m e)))
unfolding eq of_bits
zero_picked s m e true h = tt
zero_picked s m e false h =
    let c : Bool = eqb (0 * 1 * down e) (m * up e * 1) in
    eq→eqb (no_factor m (up e) (up_pos e) (sym (mul-one (m * up e)) ∙ sym (eqb→eq (0 * 1 * down e) (m * up e * 1) (and_l c (beq false s || eqb (0 * 1 * down e) 0) h)) ∙ zero-mul (down e)))

lesser-zero : (x : Float) → le 0f x ≡ true → T (is_zero (lesser x 0f))
unfolding lesser is_nan of_bits le
lesser-zero nan h = absurd (false≢true h)
lesser-zero (inf true) h = absurd (false≢true h)
lesser-zero (inf false) h = tt
lesser-zero (fin s m e) h = zero_picked s m e (lt 0f (fin s m e)) (yes h)

plus_none : (a b : ℕ) → b ≡ 0 → a + b ≡ a
plus_none a b e = omega arith

less_none : (a b : ℕ) → b ≡ 0 → a - b ≡ a
less_none a b e = omega arith

none-le : (a b : ℕ) → b ≡ 0 → b ≤ a
none-le a b e = omega arith

plus-zero : (l m : Float) → T (positive l) → T (is_zero m) → l +f m ≡ round binary32 false (num l * den m) (den l * den m)
unfolding add sum
plus-zero nan m p z = absurd p
plus-zero (inf s) m p z = absurd p
plus-zero (fin true a e) m p z = absurd p
plus-zero (fin false a e) nan p z = absurd z
plus-zero (fin false a e) (inf s) p z = absurd z
plus-zero (fin false a e) (fin false n d) p z =
    ap (λ (k : ℕ). round binary32 false k (down e * down d)) (plus_none (a * up e * down d) (n * up d * down e) (nothing n (up d) (down e) (eqb→eq n 0 z)))
plus-zero (fin false a e) (fin true n d) p z =
    let o = nothing n (up d) (down e) (eqb→eq n 0 z) in
    rw (le-ltb (a * up e * down d) (n * up d * down e) (none-le (a * up e * down d) (n * up d * down e) o))
    (ap (λ (k : ℕ). round binary32 false k (down e * down d)) (less_none (a * up e * down d) (n * up d * down e) o))

endless_plus : (m : Float) → T (is_zero m) → inf false +f m ≡ inf false
unfolding add
endless_plus nan z = absurd z
endless_plus (inf s) z = absurd z
endless_plus (fin s m e) z = refl

-- what is no less than a u that fits still is with a zero added
zero_keeps : (u l m : Float) → T (fits binary32 u) → T (positive u) → T (is_zero m) → T (le u l) → T (le u (l +f m))
zero_keeps u nan m F p z h = absurd (above_of_le u nan p h)
zero_keeps u (inf true) m F p z h = absurd (above_of_le u (inf true) p h)
zero_keeps u (inf false) m F p z h = subst (λ (y : Float). T (le u y)) (sym (endless_plus m z)) h
zero_keeps u (fin true a e) m F p z h = absurd (above_of_le u (fin true a e) p h)
zero_keeps u (fin false a e) m F p z h =
    let l = fin false a e in
    let q : T (positive l) = above_of_le u l p h in
    let g : num u * (den l * den m) ≤ num l * den m * den u =
    le_trans (le_of_eq (sym (mul_assoc (num u) (den l) (den m)))) (le_trans (mul-le-mul_right (den m) (le→cross u l p q h)) (le_of_eq (mul_right_comm (num l) (den u) (den m)))) in
    subst (λ (y : Float). T (le u y)) (sym (plus-zero l m q z)) (le_round u (num l * den m) (den l * den m) F p (mul-pos (den_pos l) (den_pos m)) g)

beyond_box : (S r best g : Float) → T (fits binary32 S) → le 0f g ≡ true → beyond S r best ≡ true → le best (square_root S +f lesser g 0f -f r) ≡ true
unfolding beyond
beyond_box S r best g F k h =
    let u = bound r best in
    cleared S r best u (square_root S +f lesser g 0f) F (bound_fits r best) (λ on p. zero_keeps u (square_root S) (lesser g 0f) (bound_fits r best) p (lesser-zero g k) on) h

-- ---- the shapes

square_fits : (v : Vec3) → T (fits binary32 (length_squared v))
unfolding length_squared
square_fits v = add-fits binary32 (v.x *f v.x +f v.y *f v.y) (v.z *f v.z)

far_sphere_lem : (c : Vec3) (r : Float) (p : Vec3) (best : Float) → far_sphere c r p best ≡ true → le best (sphere c r p) ≡ true
unfolding far_sphere sphere length_of
far_sphere_lem c r p best h = beyond_root (length_squared (minus p c)) r best (square_fits (minus p c)) h

far_capsule_lem : (a b : Vec3) (r : Float) (p : Vec3) (best : Float) → far_capsule a b r p best ≡ true → le best (capsule a b r p) ≡ true
unfolding far_capsule capsule length_of
far_capsule_lem a b r p best h = beyond_root _ r best (square_fits _) h

module _ (c b : Vec3) (r : Float) (p : Vec3) (best : Float) (h : far_box c b r p best ≡ true) where
  abbrev q : Vec3
  q = minus (absolutes (minus p c)) (minus b (vec r r r))

  abbrev inner : Float
  inner = greater q.x (greater q.y q.z)

  abbrev square : Float
  square = length_squared (greaters q zero_vec)

  outside : le 0f inner ≡ true
  unfolding far_box
  outside = is_true (le 0f inner) (and_l (le 0f inner) (beyond square r best) (yes h))

  beyond_inner : beyond square r best ≡ true
  unfolding far_box
  beyond_inner = is_true (beyond square r best) (and_r (le 0f inner) (beyond square r best) (yes h))

  far_box_lem : le best (round_box c b r p) ≡ true
  unfolding round_box length_of
  far_box_lem = beyond_box square r best inner (square_fits (greaters q zero_vec)) outside beyond_inner

-- where `far` is true, the shape is no nearer than best
pub far_dist : (shape : Shape) (p : Vec3) (best : Float) → far shape p best ≡ true → le best (dist shape p) ≡ true
unfolding far dist
far_dist (Sphere c r) p best h = far_sphere_lem c r p best h
far_dist (RoundBox c b r) p best h = far_box_lem c b r p best h
far_dist (Plane n k) p best h = absurd (false≢true h)
far_dist (Capsule a b r) p best h = far_capsule_lem a b r p best h
far_dist (Torus c major minor) p best h = absurd (false≢true h)
far_dist (Cylinder a b r) p best h = absurd (false≢true h)
far_dist (Cone a b ra rb) p best h = absurd (false≢true h)

-- and best is above 0
beyond_positive : (S r best : Float) → beyond S r best ≡ true → lt 0f best ≡ true
unfolding beyond
beyond_positive S r best h = best_above S r best (bound r best) h

pub far_positive : (shape : Shape) (p : Vec3) (best : Float) → far shape p best ≡ true → lt 0f best ≡ true
unfolding far far_sphere far_capsule
far_positive (Sphere c r) p best h = beyond_positive _ r best h
far_positive (RoundBox c b r) p best h = beyond_positive (square c b r p best h) r best (beyond_inner c b r p best h)
far_positive (Plane n k) p best h = absurd (false≢true h)
far_positive (Capsule a b r) p best h = beyond_positive _ r best h
far_positive (Torus c major minor) p best h = absurd (false≢true h)
far_positive (Cylinder a b r) p best h = absurd (false≢true h)
far_positive (Cone a b ra rb) p best h = absurd (false≢true h)
