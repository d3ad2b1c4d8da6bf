-- Lines of a text, for the programs that replay answers. Definitions only.
use Rattle.std.specs.Prelude.{Bool, true, false, cond, ◌&&◌, List, [], ◌∷◌, ℕ, zero, suc, ◌+◌, ◌-◌, eqb, length, drop, take, position, unwrap_or, ◌==◌, Option, Some, None, option_map, option_and_then}
use Rattle.text.specs.Words.{word_at}

-- how many bytes the first line of a text has, its newline counted
unfoldable pub line_length : List ℕ → ℕ
line_length [] = 0
line_length (b ∷ l) = cond (eqb b 10) 1 (suc (line_length l))

-- the place after the line that starts at `at`
abbrev pub line_end : List ℕ → ℕ → ℕ
line_end l at = at + line_length (drop at l)

-- one byte more in front of the first line
unfoldable pub with_first : ℕ → List (List ℕ) → List (List ℕ)
with_first b [] = (b ∷ []) ∷ []
with_first b (x ∷ xs) = (b ∷ x) ∷ xs

-- the lines of a text: each ends after its newline, the last maybe without one
unfoldable pub lines_of : List ℕ → List (List ℕ)
lines_of [] = []
lines_of (b ∷ l) = cond (eqb b 10) ((b ∷ []) ∷ lines_of l) (with_first b (lines_of l))

-- whether a list starts with p
unfoldable pub starts : List ℕ → List ℕ → Bool
starts [] l = true
starts (a ∷ p) [] = false
starts (a ∷ p) (b ∷ l) = eqb b a && starts p l

-- the name of a line: the bytes before its first space; none where it has no space
abbrev pub name_of : List ℕ → List ℕ
name_of l = take (unwrap_or (position (λ b. b == 32) l) 0) l

-- the words of a text, at most n, each of eight digits after a space; none where the text is anything else
unfoldable pub words_in : ℕ → List ℕ → Option (List ℕ)
words_in n [] = Some []
words_in zero (b ∷ l) = None
words_in (suc n) (b ∷ l) =
    cond (eqb b 32) (option_and_then (λ w. option_map (λ words. w ∷ words) (words_in n (drop 8 l))) (word_at l 0)) None

-- whether a text ends with a newline
unfoldable pub ends : List ℕ → Bool
ends [] = false
ends (b ∷ []) = eqb b 10
ends (b ∷ c ∷ l) = ends (c ∷ l)

-- up to 16 such words and a newline; none where the text is anything else
abbrev pub words_of : List ℕ → Option (List ℕ)
words_of l = cond (ends l) (words_in 16 (take (length l - 1) l)) None

-- the words after a line's name, and a newline; none where anything else stands there
abbrev pub words_after : List ℕ → Option (List ℕ)
words_after l = words_of (drop (length (name_of l)) l)
