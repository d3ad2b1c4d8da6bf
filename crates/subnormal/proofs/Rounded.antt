-- A fraction of two whole numbers rounded to the nearest whole number, a tie to the even one: by an addition and a shift, beyond the digits of its numerator,
-- and from a quotient cut to a whole number of halves. Nothing here is about floats. Assumes nothing.
use mathlib.Core.Path.{◌≡◌, refl, sym, ap, ◌∙◌}
use mathlib.Core.Logic.{inl, inr}
use Prim.Native.Nat.{ℕ, suc, ◌+◌, ◌-◌, ◌*◌, ◌/◌, ◌%◌, ◌^◌, ◌≤◌, ◌<◌, min, compare, Ordering}
use native.Mathlib.Nat.{le_trans, le_of_eq, lt_of_lt_of_le, mod-lt, mod-eq_of_lt, div-eq_of_lt, div-add-mod', div-div-eq-div-mul, mul_comm, mul_assoc, mul_left_comm, mul-le-mul_right, add-mul, pow-succ'}
use native.Mathlib.Omega.{arith}
use lib.Pow.{pow_pos, pow_mono, high, low as Pow·low, split}
use lib.Ieee.{nearest}
use lib.Ieee.Nearest.{closest}
use Rattle.float.proofs.Numbers.{here_or_on}
use Rattle.float.proofs.Roots.{Cmp, cmp}
use Rattle.subnormal.specs.Packing.{halves}

pub doubled : (k : ℕ) → 0 < k → 2 ^ k ≡ 2 * 2 ^ (k - 1)
doubled k some = ap (λ (i : ℕ). 2 ^ i) (back k some) ∙ pow-succ' 2 (k - 1)
  where
    back : (i : ℕ) → 0 < i → i ≡ suc (i - 1)
    back i h = omega arith

-- ---- by an addition and a shift: p = q * 2 ^ k + r, and h is the half of 2 ^ k

module _ (p k : ℕ) (some : 0 < k) where
  abbrev q : ℕ
  q = p / 2 ^ k

  abbrev r : ℕ
  r = p % 2 ^ k

  abbrev h : ℕ
  h = 2 ^ (k - 1)

  two_h : 2 ^ k ≡ 2 * h
  two_h = doubled k some

  abbrev added : ℕ
  added = r + (h - 1) + q % 2

  sum_is : p + (h - 1) + q % 2 ≡ q * 2 ^ k + added
  sum_is = let e = split p k in omega arith

  stays : added < 2 ^ k → (p + (h - 1) + q % 2) / 2 ^ k ≡ q
  stays l = ap (λ (i : ℕ). i / 2 ^ k) sum_is ∙ high q k l

  goes_up : 2 ^ k ≤ added → (p + (h - 1) + q % 2) / 2 ^ k ≡ suc q
  goes_up l = ap (λ (i : ℕ). i / 2 ^ k) (sum_is ∙ carry (add-mul q 1 (2 ^ k))) ∙ high (q + 1) k rest ∙ next
    where
      carry : (q + 1) * 2 ^ k ≡ q * 2 ^ k + 1 * 2 ^ k → q * 2 ^ k + added ≡ (q + 1) * 2 ^ k + (added - 2 ^ k)
      carry e = omega arith

      rest : added - 2 ^ k < 2 ^ k
      rest = let a = mod-lt p (pow_pos k) in let b = pow_pos (k - 1) in let e = two_h in omega arith

      next : q + 1 ≡ suc q
      next = omega arith

  pick : (o : Ordering) → Cmp o (r * 2) (2 ^ k) → (p + (h - 1) + q % 2) / 2 ^ k ≡ nearest q o
  pick Ordering.lt c = stays (let e = two_h in let b = pow_pos (k - 1) in omega arith)
  pick Ordering.eq c = elim (here_or_on (q % 2) 1) [
    | inl e ↦ stays (let t = two_h in let b = pow_pos (k - 1) in omega arith) ∙ even e
    | inr e ↦ goes_up (let t = two_h in let b = pow_pos (k - 1) in omega arith) ∙ odd e
  ]
    where
      even : q % 2 < 1 → q ≡ q + q % 2
      even e = omega arith

      odd : 1 ≤ q % 2 → suc q ≡ q + q % 2
      odd e = omega arith
  pick Ordering.gt c = goes_up (let e = two_h in let b = pow_pos (k - 1) in omega arith)

  pub by_shift : (p + (h - 1) + q % 2) / 2 ^ k ≡ closest p (2 ^ k)
  by_shift = pick (compare (r * 2) (2 ^ k)) (cmp (r * 2) (2 ^ k))

-- ---- beyond the digits of p

none : (p u : ℕ) → p * 2 < u → closest p u ≡ 0
none p u l = go (compare (p % u * 2) u) (cmp (p % u * 2) u)
  where
    under : p < u
    under = omega arith

    go : (o : Ordering) → Cmp o (p % u * 2) u → nearest (p / u) o ≡ 0
    go Ordering.lt c = div-eq_of_lt under
    go Ordering.eq c = absurd (let e = mod-eq_of_lt under in omega arith)
    go Ordering.gt c = absurd (let e = mod-eq_of_lt under in omega arith)

pub within : (p k : ℕ) → p < 2 ^ 50 → closest p (2 ^ min k 63) ≡ closest p (2 ^ k)
within p k l = elim (here_or_on k 63) [
  | inl g ↦ ap (λ (i : ℕ). closest p (2 ^ i)) (least g)
  | inr g ↦ ap (λ (i : ℕ). closest p (2 ^ i)) (most g) ∙ none p (2 ^ 63) (omega arith) ∙ sym (none p (2 ^ k) (lt_of_lt_of_le (omega arith) (pow_mono g)))
]
  where
    least : k < 63 → min k 63 ≡ k
    least g = omega arith

    most : 63 ≤ k → min k 63 ≡ 63
    most g = omega arith

-- ---- from a quotient cut to a whole number of halves

-- orders that are the same pick the same number
alike : (q a b c d : ℕ) (o u : Ordering) → Cmp o a b → Cmp u c d → (a < b → c < d) → (a ≡ b → c ≡ d) → (b < a → d < c) → nearest q o ≡ nearest q u
alike q a b c d Ordering.lt Ordering.lt x y l e g = refl
alike q a b c d Ordering.eq Ordering.eq x y l e g = refl
alike q a b c d Ordering.gt Ordering.gt x y l e g = refl
alike q a b c d Ordering.lt Ordering.eq x y l e g = absurd (let h = l x in omega arith)
alike q a b c d Ordering.lt Ordering.gt x y l e g = absurd (let h = l x in omega arith)
alike q a b c d Ordering.eq Ordering.lt x y l e g = absurd (let h = e x in omega arith)
alike q a b c d Ordering.eq Ordering.gt x y l e g = absurd (let h = e x in omega arith)
alike q a b c d Ordering.gt Ordering.lt x y l e g = absurd (let h = g x in omega arith)
alike q a b c d Ordering.gt Ordering.eq x y l e g = absurd (let h = g x in omega arith)

-- n = Q * m + rest, and Q = a * 2 ^ s + low, with 2 ^ s the double of g
module _ (n m s : ℕ) (M : 0 < m) (some : 0 < s) where
  abbrev Q : ℕ
  Q = n / m

  abbrev rest : ℕ
  rest = n % m

  abbrev low : ℕ
  low = Q % 2 ^ s

  abbrev g : ℕ
  g = 2 ^ (s - 1)

  twice : 2 ^ s ≡ 2 * g
  twice = doubled s some

  again : 2 ^ (s + 1) ≡ 2 * 2 ^ s
  again = ap (λ (i : ℕ). 2 ^ i) (next s) ∙ pow-succ' 2 s
    where
      next : (i : ℕ) → i + 1 ≡ suc i
      next i = omega arith

  -- the whole parts
  whole_n : n / (m * 2 ^ s) ≡ Q / 2 ^ s
  whole_n = sym (div-div-eq-div-mul n m (2 ^ s))

  halves_is : halves n m ≡ Q / 2 ^ s * 2 ^ (s + 1) + (2 * low + min 1 rest)
  halves_is = let e = split Q s in let f : Q / 2 ^ s * 2 ^ (s + 1) ≡ 2 * (Q / 2 ^ s * 2 ^ s) = ap (λ (i : ℕ). Q / 2 ^ s * i) again ∙ mul_left_comm (Q / 2 ^ s) 2 (2 ^ s) in omega arith

  few : 2 * low + min 1 rest < 2 ^ (s + 1)
  few = let l = mod-lt Q (pow_pos s) in let e = again in omega arith

  whole_halves : halves n m / 2 ^ (s + 1) ≡ Q / 2 ^ s
  whole_halves = ap (λ (i : ℕ). i / 2 ^ (s + 1)) halves_is ∙ high (Q / 2 ^ s) (s + 1) few

  -- the remainders
  rest_halves : halves n m % 2 ^ (s + 1) ≡ 2 * low + min 1 rest
  rest_halves = ap (λ (i : ℕ). i % 2 ^ (s + 1)) halves_is ∙ Pow·low (Q / 2 ^ s) (s + 1) few

  rest_n : n % (m * 2 ^ s) ≡ low * m + rest
  rest_n =
      let a : n / (m * 2 ^ s) * (m * 2 ^ s) + n % (m * 2 ^ s) ≡ n = div-add-mod' n (m * 2 ^ s) in
      let b : n / (m * 2 ^ s) * (m * 2 ^ s) ≡ Q / 2 ^ s * 2 ^ s * m = ap (λ (i : ℕ). i * (m * 2 ^ s)) whole_n ∙ simp (mul_assoc, mul_comm, mul_left_comm) in
      let c : Q * m + rest ≡ n = div-add-mod' n m in
      let d : Q * m ≡ Q / 2 ^ s * 2 ^ s * m + low * m = ap (λ (i : ℕ). i * m) (sym (split Q s)) ∙ add-mul (Q / 2 ^ s * 2 ^ s) low m in
      omega arith

  -- how they compare with the half
  half_n : m * 2 ^ s ≡ 2 * (g * m)
  half_n = ap (λ (i : ℕ). m * i) twice ∙ simp (mul_comm, mul_left_comm)

  under : low < g → low * m + rest < g * m
  under l = lt_of_lt_of_le (let r = mod-lt n M in let e = add-mul low 1 m in below r e) (mul-le-mul_right m (more l))
    where
      below : rest < m → (low + 1) * m ≡ low * m + 1 * m → low * m + rest < (low + 1) * m
      below r e = omega arith

      more : low < g → low + 1 ≤ g
      more e = omega arith

  over : g ≤ low → g * m ≤ low * m
  over l = mul-le-mul_right m l

  beyond : g < low → g * m + m ≤ low * m
  beyond l = le_trans (le_of_eq (by (add-mul g 1 m))) (mul-le-mul_right m (more l))
    where
      by : (g + 1) * m ≡ g * m + 1 * m → g * m + m ≡ (g + 1) * m
      by e = omega arith

      more : g < low → g + 1 ≤ low
      more e = omega arith

  less : (low * m + rest) * 2 < m * 2 ^ s → (2 * low + min 1 rest) * 2 < 2 ^ (s + 1)
  less c = elim (here_or_on low g) [
    | inl l ↦ let a = again in let t = twice in omega arith
    | inr l ↦ absurd (let o = over l in let e = half_n in omega arith)
  ]

  level : (low * m + rest) * 2 ≡ m * 2 ^ s → (2 * low + min 1 rest) * 2 ≡ 2 ^ (s + 1)
  level c = elim (here_or_on low g) [
    | inl l ↦ absurd (let u = under l in let e = half_n in omega arith)
    | inr l ↦ elim (here_or_on g low) [
      | inl d ↦ absurd (let b = beyond d in let e = half_n in omega arith)
      | inr d ↦ let o = over l in let e = half_n in let a = again in let t = twice in omega arith
    ]
  ]

  greater : m * 2 ^ s < (low * m + rest) * 2 → 2 ^ (s + 1) < (2 * low + min 1 rest) * 2
  greater c = elim (here_or_on low g) [
    | inl l ↦ absurd (let u = under l in let e = half_n in omega arith)
    | inr l ↦ elim (here_or_on g low) [
      | inl d ↦ let a = again in let t = twice in omega arith
      | inr d ↦ let same : low ≡ g = omega arith in let f = ap (λ (i : ℕ). i * m) same in let e = half_n in let a = again in let t = twice in omega arith
    ]
  ]

  pub by_halves : closest n (m * 2 ^ s) ≡ closest (halves n m) (2 ^ (s + 1))
  by_halves =
      ap (λ (i : ℕ). nearest i (compare (n % (m * 2 ^ s) * 2) (m * 2 ^ s))) whole_n
      ∙ ap (λ (i : ℕ). nearest (Q / 2 ^ s) (compare (i * 2) (m * 2 ^ s))) rest_n
      ∙ alike (Q / 2 ^ s) ((low * m + rest) * 2) (m * 2 ^ s) ((2 * low + min 1 rest) * 2) (2 ^ (s + 1)) (compare ((low * m + rest) * 2) (m * 2 ^ s)) (compare ((2 * low + min 1 rest) * 2) (2 ^ (s + 1))) (cmp ((low * m + rest) * 2) (m * 2 ^ s)) (cmp ((2 * low + min 1 rest) * 2) (2 ^ (s + 1))) less level greater
      ∙ ap (λ (i : ℕ). nearest (Q / 2 ^ s) (compare (i * 2) (2 ^ (s + 1)))) (sym rest_halves)
      ∙ ap (λ (i : ℕ). nearest i (compare (halves n m % 2 ^ (s + 1) * 2) (2 ^ (s + 1)))) (sym whole_halves)
