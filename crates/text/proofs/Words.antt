-- Words read from text: the turns of the loop that reads the eight digits. Assumes nothing.
use Prim.Native.Nat.{ℕ, ◌+◌, ◌*◌, ◌-◌, ◌^◌, ◌≤◌, ◌<◌}
use mathlib.Core.Bool.{Bool, true, false, cond, ◌&&◌, and-eq-true_iff}
use mathlib.Core.Path.{◌≡◌, refl, sym}
use mathlib.Core.List.{List, ◌∷◌}
use native.Mathlib.Omega.{arith}
use native.Mathlib.Nat.{pow-suc, pow-le-pow_right}
use native.Mathlib.Numerals.{add-one}
use lib.Dec.{leb}
use lib.ListN.{length, drop, get_or}
use lib.Seq.{drop-cons}
use borrow.Author.Tests.{leb-true}
use Rattle.std.specs.Prelude.{Option, Some, None}
use Rattle.text.specs.Words.{digit_of, spelled}

-- a test of both ends of a range that passes
pub within : (a b c : ℕ) → (leb a b && leb b c) ≡ true → (a ≤ b) × (b ≤ c)
within a b c e = let both = (and-eq-true_iff (leb a b) (leb b c)).0 e in (leb-true a b both.0, leb-true b c both.1)

-- a digit's value is below 16
pub digit_below : (b d : ℕ) → digit_of b ≡ Some d → d < 16
digit_below b d e = by (leb 48 b && leb b 57) (leb 65 b && leb b 70) refl refl e
  where
    by : (t u : Bool) → (leb 48 b && leb b 57) ≡ t → (leb 65 b && leb b 70) ≡ u → cond t (Some (b - 48)) (cond u (Some (b - 55)) None) ≡ Some d → d < 16
    by true u f g h = let r = within 48 b 57 f in let x : b - 48 ≡ d = grind arith in omega arith
    by false true f g h = let r = within 65 b 70 g in let x : b - 55 ≡ d = grind arith in omega arith
    by false false f g h = absurd (grind arith)

-- a digit after a number of i digits makes one of i + 1 digits, and of at most 8
pub room : (n d i : ℕ) → n < 16 ^ i → d < 16 → i < 8 → (n * 16 + d < 16 ^ (i + 1)) × (n * 16 + d < 2 ^ 32)
room n d i h hd hi =
    let e : 16 ^ (i + 1) ≡ 16 ^ i * 16 = rw (add-one i, pow-suc) in
    let m : 16 ^ (i + 1) ≤ 16 ^ 8 = pow-le-pow_right {n = 16} (omega arith) {i = i + 1} {j = 8} (omega arith) in
    (omega arith, omega arith)

-- the loop has read the first i of the eight digits of s, which spell n; `whole` is what all eight spell
abbrev pub ReadTo : List ℕ → Option ℕ → ℕ → ℕ → Type 0
ReadTo s whole n i = (length s ≡ 8) × (n < 16 ^ i) × (spelled n (drop i s) ≡ whole)

module _ (s : List ℕ) (i n : ℕ) (whole : Option ℕ) (hi : i < 8) (so : ReadTo s whole n i) where
  -- what is left starts with the i-th digit
  next : drop i s ≡ get_or s i 0 ∷ drop (i + 1) s
  next = rw (drop-cons s i 0 (omega (arith, so.0)), add-one i)

  -- a turn that meets a digit
  pub digit_read : (d : ℕ) → Some d ≡ digit_of (get_or s i 0) → ReadTo s whole (n * 16 + d) (i + 1)
  unfolding spelled
  digit_read d e =
      (so.0, (room n d i so.1 (digit_below (get_or s i 0) d (sym e)) hi).0, rw (next, ← e) at so.2)

  -- a turn that meets another byte
  pub none_read : None ≡ digit_of (get_or s i 0) → None ≡ whole
  unfolding spelled
  none_read e = rw (next, ← e) at so.2
