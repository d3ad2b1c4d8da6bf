-- A number as text, for document 01, 'The room file and `roomlight`': floats are eight hexadecimal digits of their bits, counts are decimal. Definitions only.
use Rattle.std.specs.Prelude.{ℕ, zero, suc, ◌+◌, ◌/◌, ◌%◌, cond, List, [], ◌∷◌, ◌++◌, ltb}

-- the ASCII code of a digit below 16: `0` to `9`, then `A` to `F`
abbrev pub glyph : ℕ → ℕ
glyph d = cond (ltb d 10) (48 + d) (55 + d)

-- the last k digits of n in base b, the most significant first
unfoldable pub last_digits : ℕ → ℕ → ℕ → List ℕ
last_digits b zero n = []
last_digits b (suc k) n = last_digits b k (n / b) ++ (glyph (n % b) ∷ [])

-- the eight hexadecimal digits of a word
abbrev pub hex_digits : ℕ → List ℕ
hex_digits w = last_digits 16 8 w

-- n in decimal, for an n of at most k digits: a number below 10 is one digit, any other is the tenth part of it and then its last digit
unfoldable pub decimal_within : ℕ → ℕ → List ℕ
decimal_within zero n = []
decimal_within (suc k) n = cond (ltb n 10) (glyph n ∷ []) (decimal_within k (n / 10) ++ (glyph (n % 10) ∷ []))

-- n in decimal; a u32 has at most ten digits
abbrev pub decimal_digits : ℕ → List ℕ
decimal_digits n = decimal_within 10 n
