-- What is written is read back, nothing else is read as a word, and a number takes the fewest decimal digits. Assumes nothing.
use Prim.Native.Nat.{ℕ, zero, suc, ◌+◌, ◌*◌, ◌-◌, ◌/◌, ◌%◌, ◌^◌, ◌≤◌, ◌<◌}
use mathlib.Core.Path.{◌≡◌, refl, sym, ap, ◌∙◌}
use mathlib.Core.Bool.{Bool, true, false, cond, ◌&&◌}
use mathlib.Core.List.{List, [], ◌∷◌, ◌++◌, append-nil, append_assoc}
use native.Mathlib.Omega.{arith}
use native.Mathlib.Nat.{pow-le-pow_right, pow-suc, pow-succ', mul_assoc, mod-lt, div-one, div-div-eq-div-mul, sub-zero, suc-sub-suc}
use native.Mathlib.Numerals.{add-one}
use lib.Dec.{leb, ltb}
use lib.ListN.{length, take, drop, length-append, length-take, length-drop}
use lib.Seq.{append_snoc, take_at, drop-append_seam}
use borrow.Author.Tests.{lt-ltb, le-ltb, le-leb, lt-leb, ltb-true, ltb-false, leb-true, leb-false}
use Rattle.std.specs.Prelude.{Option, Some, None, option_and_then}
use Rattle.text.specs.Digits.{glyph, last_digits, hex_digits, decimal_within, decimal_digits}
use Rattle.text.specs.Words.{digit_of, spelled, word_at}
use Rattle.text.proofs.Spelling.{length_digits, decimal_digits_lem}
use Rattle.text.proofs.Words.{within, digit_below}

-- eight digits a word
pub length_hex : (w : ℕ) → length (hex_digits w) ≡ 8
length_hex w = length_digits 16 8 w

-- a digit's character has the digit's value
digit_glyph : (d : ℕ) → d < 16 → digit_of (glyph d) ≡ Some d
digit_glyph d h = by (ltb d 10) refl
  where
    by : (t : Bool) → ltb d 10 ≡ t → digit_of (cond t (48 + d) (55 + d)) ≡ Some d
    by true e =
        rw (le-leb 48 (48 + d) (omega arith), le-leb (48 + d) 57 (omega (arith, ltb-true d 10 e))) (ap Some (omega arith))
    by false e =
        let g : 10 ≤ d = ltb-false d 10 e in
        rw (le-leb 48 (55 + d) (omega arith), lt-leb (55 + d) 57 (omega arith), le-leb 65 (55 + d) (omega arith), le-leb (55 + d) 70 (omega arith)) (ap Some (omega arith))

-- k digits, and then what follows them, are read as the number that they spell, and then what follows
read_digits : (k m w : ℕ) (t : List ℕ) → w < 16 ^ k → spelled m (last_digits 16 k w ++ t) ≡ spelled (m * 16 ^ k + w) t
unfolding last_digits spelled
read_digits zero m w t h = ap (λ (n : ℕ). spelled n t) (omega arith)
read_digits (suc k) m w t h =
    let p : 16 ^ suc k ≡ 16 ^ k * 16 = pow-suc 16 k in
    let d : w % 16 < 16 = mod-lt w (omega arith) in
    rw (append_snoc, read_digits k m (w / 16) (glyph (w % 16) ∷ t) (omega arith), digit_glyph (w % 16) d)
    (ap (λ (n : ℕ). spelled n t) (omega (arith, ap (λ (q : ℕ). m * q) p ∙ sym (mul_assoc m (16 ^ k) 16))))

-- a word that `hex` wrote is read back, wherever it stands
pub read_back : (pre post : List ℕ) (w : ℕ) → w < 2 ^ 32 → word_at (pre ++ hex_digits w ++ post) (length pre) ≡ Some w
unfolding spelled
read_back pre post w h =
    let l : length pre + 8 ≤ length (pre ++ (hex_digits w ++ post)) = simp (length-append, length_hex) (omega arith) in
    rw (append_assoc pre (hex_digits w) post, le-leb (length pre + 8) (length (pre ++ (hex_digits w ++ post))) l, drop-append_seam pre (hex_digits w ++ post), take_at (hex_digits w) post 8 (length_hex w))
    (ap (spelled 0) (sym (append-nil (hex_digits w))) ∙ read_digits 8 0 w [] (omega arith) ∙ ap Some (omega arith))

-- what is read at a place is what is read at the start of the text from there on
pub word_from : (s : List ℕ) (at : ℕ) → word_at s at ≡ word_at (drop at s) 0
word_from s at =
    ap (λ (t : Bool). cond t (spelled 0 (take 8 (drop at s))) None) (by (leb (at + 8) (length s)) refl)
  where
    by : (t : Bool) → leb (at + 8) (length s) ≡ t → leb (at + 8) (length s) ≡ leb 8 (length (drop at s))
    by true e = let h = leb-true (at + 8) (length s) e in rw e (sym (le-leb 8 (length (drop at s)) (simp length-drop (omega (arith, h)))))
    by false e = let h = leb-false (at + 8) (length s) e in rw e (sym (lt-leb 8 (length (drop at s)) (simp length-drop (omega (arith, h)))))

-- a character that has a digit's value is that digit's
glyph_digit : (b d : ℕ) → digit_of b ≡ Some d → glyph d ≡ b
glyph_digit b d h = by (leb 48 b && leb b 57) (leb 65 b && leb b 70) refl refl h
  where
    by : (t u : Bool) → (leb 48 b && leb b 57) ≡ t → (leb 65 b && leb b 70) ≡ u → cond t (Some (b - 48)) (cond u (Some (b - 55)) None) ≡ Some d
        → glyph d ≡ b
    by true u e f g = let r = within 48 b 57 e in let x : b - 48 ≡ d = grind arith in rw (lt-ltb d 10 (omega arith)) (omega arith)
    by false true e f g = let r = within 65 b 70 f in let x : b - 55 ≡ d = grind arith in rw (le-ltb d 10 (omega arith)) (omega arith)
    by false false e f g = absurd (grind arith)

-- the first digit, and then the others
first_digit : (k n : ℕ) → last_digits 16 (suc k) n ≡ glyph (n / 16 ^ k % 16) ∷ last_digits 16 k n
unfolding last_digits
first_digit zero n = rw div-one
first_digit (suc k) n =
    let e : n / 16 / 16 ^ k ≡ n / 16 ^ suc k = div-div-eq-div-mul n 16 (16 ^ k) ∙ ap (λ (q : ℕ). n / q) (sym (pow-succ' 16 k)) in
    rw (first_digit k (n / 16), e)

-- digits that are read as w after those of m are the last digits of w, and m is what is before them
only_digits : (l : List ℕ) (m w : ℕ) → spelled m l ≡ Some w → (l ≡ last_digits 16 (length l) w) × (w / 16 ^ length l ≡ m)
unfolding spelled last_digits
only_digits [] m w h = (refl, rw div-one (let e : m ≡ w = grind arith in sym e))
only_digits (b ∷ bs) m w h = by (digit_of b) refl (λ d. only_digits bs (m * 16 + d) w) h
  where
    by : (o : Option ℕ) → digit_of b ≡ o
        → ((d : ℕ) → spelled (m * 16 + d) bs ≡ Some w → (bs ≡ last_digits 16 (length bs) w) × (w / 16 ^ length bs ≡ m * 16 + d))
        → option_and_then (λ d. spelled (m * 16 + d) bs) o ≡ Some w
        → (b ∷ bs ≡ last_digits 16 (suc (length bs)) w) × (w / 16 ^ suc (length bs) ≡ m)
    by (Some d) e ih g =
        let low = digit_below b d e in
        let r = ih d g in
        let x : (m * 16 + d) % 16 ≡ d = omega arith in
        let y : (m * 16 + d) / 16 ≡ m = omega arith in (
          rw (first_digit (length bs) w, r.1, x, glyph_digit b d e, ← r.0),
          rw (pow-suc 16 (length bs), ← div-div-eq-div-mul w (16 ^ length bs) 16, r.1, y),
        )
    by None e ih g = absurd (grind arith)

-- a word is read only where its own eight digits stand
pub only_hex : (s : List ℕ) (at w : ℕ) → word_at s at ≡ Some w → (take 8 (drop at s) ≡ hex_digits w) × (w < 2 ^ 32)
only_hex s at w h = by (leb (at + 8) (length s)) refl h
  where
    by : (t : Bool) → leb (at + 8) (length s) ≡ t → cond t (spelled 0 (take 8 (drop at s))) None ≡ Some w
        → (take 8 (drop at s) ≡ hex_digits w) × (w < 2 ^ 32)
    by true e g =
        let l : length (take 8 (drop at s)) ≡ 8 = simp (length-take, length-drop) (omega (arith, leb-true (at + 8) (length s) e)) in
        let r = rw l at (only_digits (take 8 (drop at s)) 0 w g) in (r.0, omega arith)
    by false e g = absurd (grind arith)

-- l decimal digits hold n, and fewer do not, unless l is 1
abbrev pub Fewest : ℕ → ℕ → Type 0
Fewest n l = (n < 10 ^ l) × (1 < l → 10 ^ (l - 1) ≤ n)

-- a digit more than a tenth part takes
one_more : (l n : ℕ) → 10 ≤ n → Fewest (n / 10) l → Fewest n (l + 1)
one_more zero n h f = absurd (omega arith)
one_more (suc zero) n h f = (omega arith, λ _. omega arith)
one_more (suc (suc l)) n h f =
    let e : suc (suc l) + 1 - 1 ≡ suc (suc l) = omega arith in
    let low : 10 ^ suc l ≤ n / 10 = rw (suc-sub-suc, sub-zero) at (f.1 (omega arith)) in
    let p : 10 ^ suc (suc l) ≡ 10 ^ suc l * 10 = pow-suc 10 (suc l) in
    (rw (add-one, pow-suc 10 (suc (suc l))) (omega arith), λ _. rw e (omega arith))

-- a number of at most k decimal digits takes the fewest that hold it
pub decimal_fewest : (k n : ℕ) → n < 10 ^ k → Fewest n (length (decimal_within k n))
unfolding decimal_within
decimal_fewest zero n h = (h, λ g. absurd (omega arith))
decimal_fewest (suc k) n h = by (ltb n 10) refl (decimal_fewest k (n / 10))
  where
    by : (t : Bool) → ltb n 10 ≡ t → (n / 10 < 10 ^ k → Fewest (n / 10) (length (decimal_within k (n / 10))))
        → Fewest n (length (cond t (glyph n ∷ []) (decimal_within k (n / 10) ++ (glyph (n % 10) ∷ []))))
    by true e ih = (ltb-true n 10 e, λ g. absurd (omega arith))
    by false e ih =
        let p : 10 ^ suc k ≡ 10 ^ k * 10 = pow-suc 10 k in
        rw length-append (one_more (length (decimal_within k (n / 10))) n (ltb-false n 10 e) (ih (omega arith)))

-- a number from a power of ten on, and below the next, takes one digit more than the power
pub power-length : (n k : ℕ) → n < 10 ^ 10 → 10 ^ k ≤ n → n < 10 * 10 ^ k → k + 1 ≡ length (decimal_digits n)
power-length n k f low high = by (leb l k) refl (leb (k + 2) l) refl
  where
    l : ℕ
    l = length (decimal_digits n)

    w : Fewest n l
    w = decimal_fewest 10 n f

    by : (s : Bool) → leb l k ≡ s → (t : Bool) → leb (k + 2) l ≡ t → k + 1 ≡ l
    by true e t g =
        let p : 10 ^ l ≤ 10 ^ k = pow-le-pow_right {n = 10} (omega arith) {i = l} {j = k} (leb-true l k e) in
        absurd (omega (arith, w.0))
    by false e true g =
        let h : k + 2 ≤ l = leb-true (k + 2) l g in
        let p : 10 ^ suc k ≤ 10 ^ (l - 1) = pow-le-pow_right {n = 10} (omega arith) {i = suc k} {j = l - 1} (omega arith) in
        let q : 10 ^ suc k ≡ 10 ^ k * 10 = pow-suc 10 k in
        absurd (omega (arith, w.1 (omega arith)))
    by false e false g = omega (arith, leb-false l k e, leb-false (k + 2) l g)

-- an array that has a number's last digits in front, as many as it takes, has just its decimal digits once it is cut after them
pub numeral_digits : (n : ℕ) (rest : List ℕ) → let count = length (decimal_digits n) in take count (last_digits 10 count n ++ rest) ≡ decimal_digits n
numeral_digits n rest =
    let count = length (decimal_digits n) in
    take_at (last_digits 10 count n) rest count (length_digits 10 count n) ∙ decimal_digits_lem 10 n
