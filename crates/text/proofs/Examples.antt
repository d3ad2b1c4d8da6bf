-- Worked examples. Assumes nothing.
use mathlib.Core.Path.{◌≡◌, refl}
use mathlib.Core.List.{[], ◌∷◌, map}
use Rattle.std.specs.Prelude.{Some, None}
use Rattle.text.specs.Digits.{last_digits, hex_digits, decimal_within, decimal_digits}
use Rattle.text.specs.Words.{spelled, word_at}

-- `3F2AA800`, `00000000`, `FFFFFFFF`
pub hexadecimal : map hex_digits (0x3f2aa800 ∷ 0 ∷ 0xffffffff ∷ [])
    ≡ (51 ∷ 70 ∷ 50 ∷ 65 ∷ 65 ∷ 56 ∷ 48 ∷ 48 ∷ [])
    ∷ (48 ∷ 48 ∷ 48 ∷ 48 ∷ 48 ∷ 48 ∷ 48 ∷ 48 ∷ [])
    ∷ (70 ∷ 70 ∷ 70 ∷ 70 ∷ 70 ∷ 70 ∷ 70 ∷ 70 ∷ []) ∷ []
unfolding last_digits
hexadecimal = refl

-- `0`, `7`, `10`, `400000`, `4294967295`
pub decimals : map decimal_digits (0 ∷ 7 ∷ 10 ∷ 400000 ∷ 4294967295 ∷ [])
    ≡ (48 ∷ [])
    ∷ (55 ∷ [])
    ∷ (49 ∷ 48 ∷ [])
    ∷ (52 ∷ 48 ∷ 48 ∷ 48 ∷ 48 ∷ 48 ∷ [])
    ∷ (52 ∷ 50 ∷ 57 ∷ 52 ∷ 57 ∷ 54 ∷ 55 ∷ 50 ∷ 57 ∷ 53 ∷ []) ∷ []
unfolding decimal_within
decimals = refl

-- `3F2AA800` is a word; `3f2AA800`, `3G2AA800` and `3F2AA80` are none
pub words : map (λ s. word_at s 0)
    ((51 ∷ 70 ∷ 50 ∷ 65 ∷ 65 ∷ 56 ∷ 48 ∷ 48 ∷ [])
    ∷ (51 ∷ 102 ∷ 50 ∷ 65 ∷ 65 ∷ 56 ∷ 48 ∷ 48 ∷ [])
    ∷ (51 ∷ 71 ∷ 50 ∷ 65 ∷ 65 ∷ 56 ∷ 48 ∷ 48 ∷ [])
    ∷ (51 ∷ 70 ∷ 50 ∷ 65 ∷ 65 ∷ 56 ∷ 48 ∷ [])
    ∷ [])
    ≡ Some 0x3f2aa800 ∷ None ∷ None ∷ None ∷ []
unfolding spelled
words = refl
