-- The 16 directions of the closure: document 01, 'What changes shape' (`sin`, `cos` in the 16 directions become a table of bits taken from the Rust run). The rest is in the order of
-- the Rust's float steps. Definitions only.
use Rattle.std.specs.Prelude.{List, [], ◌∷◌, ℕ, ◌+◌, Float, get_or}
use Rattle.std.specs.Float.{binary32}
use Rattle.std.specs.Float.Ieee.{of_bits}
use Rattle.float.specs.Arithmetic.{◌-f◌, ◌*f◌, 0f, 1f}
use Rattle.float.specs.Order.{greater}
use Rattle.float.specs.Root.{square_root}
use Rattle.vector.specs.declared.Vec3.{Vec3}
use Rattle.vector.specs.Vector.{vec}
use Rattle.vector.specs.Halton.{radical_inverse}

-- the cosines of 2 π × the radical inverse of 1, 2, .. , 16 in base 3, by their bits
abbrev pub cosines : List ℕ
cosines =
    0xbf00_0001 ∷ 0xbeff_fffd ∷ 0x3f44_1b7c ∷ 0xbf70_8fb4 ∷ 0x3e31_d0f2 ∷ 0x3e31_d0c7 ∷ 0xbf70_8fb1 ∷ 0x3f44_1b86
    ∷ 0x3f79_1978 ∷ 0xbf2f_ad89 ∷ 0xbe92_d7e2 ∷ 0x3f18_df61 ∷ 0xbf7e_44df ∷ 0x3eca_caff ∷ 0xbd6e_2984 ∷ 0xbf55_e287
    ∷ []

-- the sines
abbrev pub sines : List ℕ
sines =
    0x3f5d_b3d7 ∷ 0xbf5d_b3d8 ∷ 0x3f24_8dbc ∷ 0x3eaf_1d37 ∷ 0xbf7c_1c5b ∷ 0x3f7c_1c5d ∷ 0xbeaf_1d4c ∷ 0xbf24_8db0
    ∷ 0x3e6c_2693 ∷ 0x3f3a_3528 ∷ 0xbf75_3ecd ∷ 0x3f4d_57f3 ∷ 0x3ded_c1e6 ∷ 0xbf6b_1034 ∷ 0x3f7f_911f ∷ 0xbf0c_ac9f
    ∷ []

-- the float whose bits stand at place k of a table
abbrev pub float_of : List ℕ → ℕ → Float
float_of l k = of_bits binary32 (get_or l k 0)

-- with u the radical inverse of k + 1 in base 2: root of u times the cosine, root of u times the sine, root of 1 - u
unfoldable pub direction : ℕ → Vec3
direction k =
    let u = radical_inverse 2 (k + 1) in
    let r = square_root u in
    vec (r *f float_of cosines k) (r *f float_of sines k) (square_root (greater (1f -f u) 0f))
