-- How long the lines are. Assumes nothing.
use mathlib.Core.Bool.{Bool, true, false, cond}
use mathlib.Core.List.{List, [], ◌∷◌, ◌++◌}
use mathlib.Core.Path.{◌≡◌}
use Prim.Native.Nat.{ℕ, zero, suc, ◌+◌, ◌*◌, ◌/◌, ◌%◌, ◌^◌, ◌≤◌, ◌<◌}
use native.Mathlib.Nat.{pow-suc}
use native.Mathlib.Omega.{arith}
use lib.Dec.{ltb}
use lib.Ieee.{Float}
use lib.ListN.{length, length-append}
use borrow.Author.Tests.{lt-ltb}
use Rattle.text.specs.Digits.{glyph, decimal_within, decimal_digits}
use Rattle.text.proofs.Spelling.{decimal-length}
use Rattle.text.proofs.Laws.{length_hex}
use Rattle.vector.specs.declared.Vec3.{Vec3}
use Rattle.lines.specs.Lines.{settled_word, open_word, seen_word, unseen_word, counts_line, bounces_line, worded_line, probe_line, probed_line, refused_line}
use Rattle.std.specs.Prelude.{Option, Some, None}
use Rattle.vector.specs.Vector.{zero_vec}

-- a number below 10 ^ j has at most j decimal digits
pub decimal_short : (k n j : ℕ) → 1 ≤ j → n < 10 ^ j → length (decimal_within k n) ≤ j
unfolding decimal_within
decimal_short zero n j g h = omega arith
decimal_short (suc k) n zero g h = absurd (omega arith)
decimal_short (suc k) n (suc zero) g h = rw (lt-ltb n 10 (omega arith)) (omega arith)
decimal_short (suc k) n (suc (suc j)) g h =
    let p : 10 ^ suc (suc j) ≡ 10 ^ suc j * 10 = pow-suc 10 (suc j) in
    by (ltb n 10) (decimal_short k (n / 10) (suc j) (omega arith) (omega arith))
  where
    by : (t : Bool) → length (decimal_within k (n / 10)) ≤ suc j
        → length (cond t (glyph n ∷ []) (decimal_within k (n / 10) ++ (glyph (n % 10) ∷ []))) ≤ suc (suc j)
    by true h = omega arith
    by false h = simp length-append (omega arith)

-- counts, and a refusal
pub counts_width : (surfels clusters links : ℕ) → length (counts_line surfels clusters links) ≤ 56
unfolding counts_line
counts_width surfels clusters links =
    simp length-append (omega (arith, decimal-length 10 surfels, decimal-length 10 clusters, decimal-length 10 links))

pub refused_width : (number : ℕ) → length (refused_line number) ≤ 19
unfolding refused_line
refused_width number = simp length-append (omega (arith, decimal-length 10 number))

-- one of two texts, each of at most n bytes
either_width : (b : Bool) (s t : List ℕ) (n : ℕ) → length s ≤ n → length t ≤ n → length (cond b s t) ≤ n
either_width true s t n h k = h
either_width false s t n h k = k

-- bounces
pub bounces_width : (bounces : ℕ) (change : Float) (settled : Bool) → length (bounces_line bounces change settled) ≤ 45
unfolding bounces_line
bounces_width bounces change settled =
    simp (length-append, length_hex) (omega (arith, decimal-length 10 bounces, either_width settled settled_word open_word 8 (omega arith) (omega arith)))

-- a probe's line with a word of at most 7 bytes: at most 41 bytes and the digits of the number
worded_digits : (number : ℕ) (word : List ℕ) (light : Vec3) → length word ≤ 7 → length (worded_line number word light) ≤ length (decimal_digits number) + 41
unfolding worded_line
worded_digits number word light h = simp (length-append, length_hex) (omega arith)

probe_digits : (number : ℕ) (seen : Bool) (light : Vec3) → length (probe_line number seen light) ≤ length (decimal_digits number) + 41
probe_digits number seen light =
    worded_digits number (cond seen seen_word unseen_word) light (either_width seen seen_word unseen_word 7 (omega arith) (omega arith))

-- a number of at most four digits, and any number
pub probe_width : (number : ℕ) (seen : Bool) (light : Vec3) → number < 10000 → length (probe_line number seen light) ≤ 45
probe_width number seen light h = omega (arith, probe_digits number seen light, decimal_short 10 number 4 (omega arith) h)

pub probe_short : (number : ℕ) (seen : Bool) (light : Vec3) → length (probe_line number seen light) ≤ 64
probe_short number seen light = omega (arith, probe_digits number seen light, decimal-length 10 number)

-- the same of a probe by the light that is seen there
pub probed_width : (number : ℕ) (seen : Option Vec3) → number < 10000 → length (probed_line number seen) ≤ 45
probed_width number (Some light) h = probe_width number true light h
probed_width number None h = probe_width number false zero_vec h

pub probed_short : (number : ℕ) (seen : Option Vec3) → length (probed_line number seen) ≤ 64
probed_short number (Some light) = probe_short number true light
probed_short number None = probe_short number false zero_vec
