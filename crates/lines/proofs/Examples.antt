-- The lines of room Q of document 01, 'The room file and `roomlight`', and a refusal, computed. Assumes nothing.
use mathlib.Core.Bool.{true, false}
use mathlib.Core.List.{[], ◌∷◌}
use mathlib.Core.Path.{◌≡◌, refl}
use lib.Ieee.{binary32, of_bits, to_bits}
use Rattle.text.specs.Digits.{last_digits, decimal_within}
use Rattle.vector.specs.Vector.{zero_vec}
use Rattle.lines.specs.Lines.{counts_line, bounces_line, worded_line, probe_line, refused_line}

-- `surfels 1 clusters 1 links 1`
pub counted : counts_line 1 1 1
    ≡ 115 ∷ 117 ∷ 114 ∷ 102 ∷ 101 ∷ 108 ∷ 115 ∷ 32 ∷ 49 ∷ 32 ∷ 99 ∷ 108 ∷ 117 ∷ 115 ∷ 116 ∷ 101 ∷ 114 ∷ 115 ∷ 32 ∷ 49 ∷ 32 ∷ 108 ∷ 105 ∷ 110 ∷ 107 ∷ 115 ∷ 32 ∷ 49 ∷ 10 ∷ []
unfolding counts_line decimal_within
counted = refl

-- `bounces 7 residual 38800000 settled`
pub settled : bounces_line 7 (of_bits binary32 0x38800000) true
    ≡ 98 ∷ 111 ∷ 117 ∷ 110 ∷ 99 ∷ 101 ∷ 115 ∷ 32 ∷ 55 ∷ 32 ∷ 114 ∷ 101 ∷ 115 ∷ 105 ∷ 100 ∷ 117 ∷ 97 ∷ 108 ∷ 32 ∷ 51 ∷ 56 ∷ 56 ∷ 48 ∷ 48 ∷ 48 ∷ 48 ∷ 48 ∷ 32 ∷ 115 ∷ 101 ∷ 116 ∷ 116 ∷ 108 ∷ 101 ∷ 100 ∷ 10 ∷ []
unfolding bounces_line decimal_within last_digits to_bits of_bits
settled = refl

-- `probe 0 seen 3F2AA800 3F2AA800 3F2AA800`
pub seen : probe_line 0 true (record { x = of_bits binary32 0x3f2aa800; y = of_bits binary32 0x3f2aa800; z = of_bits binary32 0x3f2aa800 })
    ≡ 112 ∷ 114 ∷ 111 ∷ 98 ∷ 101 ∷ 32 ∷ 48 ∷ 32 ∷ 115 ∷ 101 ∷ 101 ∷ 110 ∷ 32 ∷ 51 ∷ 70 ∷ 50 ∷ 65 ∷ 65 ∷ 56 ∷ 48 ∷ 48 ∷ 32 ∷ 51 ∷ 70 ∷ 50 ∷ 65 ∷ 65 ∷ 56 ∷ 48 ∷ 48 ∷ 32 ∷ 51 ∷ 70 ∷ 50 ∷ 65 ∷ 65 ∷ 56 ∷ 48 ∷ 48 ∷ 10 ∷ []
unfolding worded_line decimal_within last_digits to_bits of_bits
seen = refl

-- `probe 1 unseen 00000000 00000000 00000000`
pub unseen : probe_line 1 false zero_vec
    ≡ 112 ∷ 114 ∷ 111 ∷ 98 ∷ 101 ∷ 32 ∷ 49 ∷ 32 ∷ 117 ∷ 110 ∷ 115 ∷ 101 ∷ 101 ∷ 110 ∷ 32 ∷ 48 ∷ 48 ∷ 48 ∷ 48 ∷ 48 ∷ 48 ∷ 48 ∷ 48 ∷ 32 ∷ 48 ∷ 48 ∷ 48 ∷ 48 ∷ 48 ∷ 48 ∷ 48 ∷ 48 ∷ 32 ∷ 48 ∷ 48 ∷ 48 ∷ 48 ∷ 48 ∷ 48 ∷ 48 ∷ 48 ∷ 10 ∷ []
unfolding worded_line decimal_within last_digits to_bits of_bits
unseen = refl

-- `refused 5`
pub refusal : refused_line 5
    ≡ 114 ∷ 101 ∷ 102 ∷ 117 ∷ 115 ∷ 101 ∷ 100 ∷ 32 ∷ 53 ∷ 10 ∷ []
unfolding refused_line decimal_within
refusal = refl
