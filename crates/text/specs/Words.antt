-- A word read from text, the way that document 01, 'The room file and `roomlight`', prints one. Definitions only.
use Rattle.std.specs.Prelude.{ℕ, ◌+◌, ◌*◌, ◌-◌, cond, ◌&&◌, List, [], ◌∷◌, leb, length, take, drop, Option, Some, None, option_and_then}

-- the value of an upper-case hexadecimal digit, given its ASCII code; none for any other byte
abbrev pub digit_of : ℕ → Option ℕ
digit_of b = cond (leb 48 b && leb b 57) (Some (b - 48)) (cond (leb 65 b && leb b 70) (Some (b - 55)) None)

-- the number that digits spell when they follow those of n; none where one of them is no digit
unfoldable pub spelled : ℕ → List ℕ → Option ℕ
spelled n [] = Some n
spelled n (b ∷ bs) = option_and_then (λ d. spelled (n * 16 + d) bs) (digit_of b)

-- the word that the eight digits from place `at` on spell; none where one of them is no digit, and where the text ends before the last of them
abbrev pub word_at : List ℕ → ℕ → Option ℕ
word_at s at = cond (leb (at + 8) (length s)) (spelled 0 (take 8 (drop at s))) None
