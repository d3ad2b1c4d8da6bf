-- The table of the 16 directions, word by word what the definition of a direction computes. Assumes nothing.
use mathlib.Core.Path.{◌≡◌, refl, ap}
use mathlib.Core.List.{List, [], ◌∷◌}
use mathlib.Core.Logic.{⊎_elim}
use Prim.Native.Nat.{ℕ, zero, suc, ◌<◌}
use native.Mathlib.Nat.{eq-or-lt_of_le}
use native.Mathlib.Omega.{arith}
use lib.Ieee.{of_bits, of_int, add, sub, mul, div, is_nan, lt}
use lib.ListN.{get_or, drop}
use Rattle.float.specs.Order.{greater}
use Rattle.float.specs.Root.{square_root}
use Rattle.vector.specs.declared.Vec3.{Vec3}
use Rattle.vector.specs.Vector.{vec}
use Rattle.vector.specs.Halton.{radical_inverse, inverse_from}
use Rattle.scene.specs.Directions.{float_of, direction}

-- the words of the table: a row of x, y, z each
abbrev pub words : List (List ℕ)
words =
    (0xbeb5_04f4 ∷ 0x3f1c_c470 ∷ 0x3f35_04f3 ∷ [])
    ∷ (0xbe7f_fffd ∷ 0xbedd_b3d8 ∷ 0x3f5d_b3d7 ∷ [])
    ∷ (0x3f29_d57e ∷ 0x3f0e_81f5 ∷ 0x3f00_0000 ∷ [])
    ∷ (0xbeaa_1a41 ∷ 0x3df7_a615 ∷ 0x3f6f_7751 ∷ [])
    ∷ (0x3e0c_9378 ∷ 0xbf47_4fa2 ∷ 0x3f1c_c471 ∷ [])
    ∷ (0x3dd9_c757 ∷ 0x3f1a_62be ∷ 0x3f4a_62c2 ∷ [])
    ∷ (0xbf61_0645 ∷ 0xbea3_cdf8 ∷ 0x3eb5_04f3 ∷ [])
    ∷ (0x3e44_1b86 ∷ 0xbe24_8db0 ∷ 0x3f77_def6 ∷ [])
    ∷ (0x3f3a_d31a ∷ 0x3e31_1cee ∷ 0x3f29_53fd ∷ [])
    ∷ (0xbec4_69f1 ∷ 0x3ed0_2fbd ∷ 0x3f54_4395 ∷ [])
    ∷ (0xbe84_5cdd ∷ 0xbf5d_0fa7 ∷ 0x3edd_b3d7 ∷ [])
    ∷ (0x3e84_643b ∷ 0x3eb1_d52e ∷ 0x3f66_c15a ∷ [])
    ∷ (0xbf52_d429 ∷ 0x3dc5_2357 ∷ 0x3f0f_1bbd ∷ [])
    ∷ (0x3e86_228b ∷ 0xbf1b_7ad1 ∷ 0x3f40_0000 ∷ [])
    ∷ (0xbd66_997b ∷ 0x3f77_739a ∷ 0x3e80_0000 ∷ [])
    ∷ (0xbe17_3d4c ∷ 0xbdc6_f189 ∷ 0x3f7b_f7df ∷ [])
    ∷ []

-- the floats of row k
abbrev pub tabled : ℕ → Vec3
tabled k =
    let row = get_or words k [] in
    vec (float_of row 0) (float_of row 1) (float_of row 2)

-- f at n - 1, .. , 1, 0
abbrev firsts : {A : Type 0} → (ℕ → A) → ℕ → List A
firsts f zero = []
firsts f (suc n) = f n ∷ firsts f n

-- two functions with the same first n values are the same at each of them
same_at : {A : Type 0} (f g : ℕ → A) (n : ℕ) → firsts f n ≡ firsts g n → (k : ℕ) → k < n → f k ≡ g k
same_at f g zero e k h = absurd (omega arith)
same_at f g (suc n) e k h =
    ⊎_elim (λ q. rw q (ap (λ l. get_or l 0 (f n)) e)) (λ l. same_at f g n (ap (drop 1) e) k l) (eq-or-lt_of_le {n = k} {m = n} (omega arith))

-- all 48 words, computed by the definition
computed : firsts tabled 16 ≡ firsts direction 16
unfolding direction radical_inverse inverse_from square_root greater of_bits of_int add sub mul div is_nan lt
computed = refl

-- so row k of the table is direction k
pub tabled_is : (k : ℕ) → k < 16 → tabled k ≡ direction k
tabled_is k h = same_at tabled direction 16 computed k h
