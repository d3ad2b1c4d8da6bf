-- The lines that `roomlight` prints, in ASCII: document 01, 'The room file and `roomlight`'. Counts are decimal, floats eight hexadecimal digits of their bits. Definitions only.
use Rattle.std.specs.Prelude.{Bool, true, false, cond, List, [], ◌∷◌, ◌++◌, ℕ, Float, Option, Some, None}
use Rattle.std.specs.Float.{binary32}
use Rattle.std.specs.Float.Ieee.{to_bits}
use Rattle.text.specs.Digits.{hex_digits, decimal_digits}
use Rattle.vector.specs.declared.Vec3.{Vec3}
use Rattle.vector.specs.Vector.{zero_vec}

-- `surfels `
abbrev pub surfels_word : List ℕ
surfels_word = 115 ∷ 117 ∷ 114 ∷ 102 ∷ 101 ∷ 108 ∷ 115 ∷ 32 ∷ []

-- ` clusters `
abbrev pub clusters_word : List ℕ
clusters_word = 32 ∷ 99 ∷ 108 ∷ 117 ∷ 115 ∷ 116 ∷ 101 ∷ 114 ∷ 115 ∷ 32 ∷ []

-- ` links `
abbrev pub links_word : List ℕ
links_word = 32 ∷ 108 ∷ 105 ∷ 110 ∷ 107 ∷ 115 ∷ 32 ∷ []

-- `bounces `
abbrev pub bounces_word : List ℕ
bounces_word = 98 ∷ 111 ∷ 117 ∷ 110 ∷ 99 ∷ 101 ∷ 115 ∷ 32 ∷ []

-- ` residual `
abbrev pub residual_word : List ℕ
residual_word = 32 ∷ 114 ∷ 101 ∷ 115 ∷ 105 ∷ 100 ∷ 117 ∷ 97 ∷ 108 ∷ 32 ∷ []

-- ` settled`
abbrev pub settled_word : List ℕ
settled_word = 32 ∷ 115 ∷ 101 ∷ 116 ∷ 116 ∷ 108 ∷ 101 ∷ 100 ∷ []

-- ` open`
abbrev pub open_word : List ℕ
open_word = 32 ∷ 111 ∷ 112 ∷ 101 ∷ 110 ∷ []

-- `probe `
abbrev pub probe_word : List ℕ
probe_word = 112 ∷ 114 ∷ 111 ∷ 98 ∷ 101 ∷ 32 ∷ []

-- ` seen`
abbrev pub seen_word : List ℕ
seen_word = 32 ∷ 115 ∷ 101 ∷ 101 ∷ 110 ∷ []

-- ` unseen`
abbrev pub unseen_word : List ℕ
unseen_word = 32 ∷ 117 ∷ 110 ∷ 115 ∷ 101 ∷ 101 ∷ 110 ∷ []

-- `refused `
abbrev pub refused_word : List ℕ
refused_word = 114 ∷ 101 ∷ 102 ∷ 117 ∷ 115 ∷ 101 ∷ 100 ∷ 32 ∷ []

-- ` `
abbrev pub space : List ℕ
space = 32 ∷ []

-- a newline
abbrev pub newline : List ℕ
newline = 10 ∷ []

-- a float: the bits of a NaN are 7FC00000
abbrev pub float_digits : Float → List ℕ
float_digits x = hex_digits (to_bits binary32 x)

-- `surfels 1 clusters 1 links 1`
unfoldable pub counts_line : ℕ → ℕ → ℕ → List ℕ
counts_line surfels clusters links =
    surfels_word ++ decimal_digits surfels ++ clusters_word ++ decimal_digits clusters ++ links_word ++ decimal_digits links ++ newline

-- `bounces 7 residual 38800000 settled`, where residual is the last change; a run that is not settled is `open`
unfoldable pub bounces_line : ℕ → Float → Bool → List ℕ
bounces_line bounces change settled =
    bounces_word ++ decimal_digits bounces ++ residual_word ++ float_digits change ++ cond settled settled_word open_word ++ newline

-- `probe 0 seen 3F2AA800 3F2AA800 3F2AA800`: the number, a word, and the light's x, y, z
unfoldable pub worded_line : ℕ → List ℕ → Vec3 → List ℕ
worded_line number word light =
    probe_word
    ++ decimal_digits number
    ++ word
    ++ space
    ++ float_digits light.x
    ++ space
    ++ float_digits light.y
    ++ space
    ++ float_digits light.z
    ++ newline

-- `seen` or `unseen`, and the reading's light, whichever of them it is
abbrev pub probe_line : ℕ → Bool → Vec3 → List ℕ
probe_line number seen light = worded_line number (cond seen seen_word unseen_word) light

-- a probe by the light that is seen there; an unseen one has zeros for it
abbrev pub probed_line : ℕ → Option Vec3 → List ℕ
probed_line number (Some light) = probe_line number true light
probed_line number None = probe_line number false zero_vec

-- `refused 5`
unfoldable pub refused_line : ℕ → List ℕ
refused_line number = refused_word ++ decimal_digits number ++ newline
