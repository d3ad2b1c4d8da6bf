-- What the definitions say, read back: how they treat NaN, that `ceiling` is the least whole number from x on, where cells lie, and worked examples of the root. Assumes nothing.
use Rattle.std.proofs.Common.{◌≡◌, ℕ, ◌+◌, ◌-◌, ◌*◌, ◌/◌, ◌^◌, ◌<◌, ◌≤◌, false, List, [], ◌∷◌, map, ℤ, refl, div-lt_iff_lt-mul, add-mul, arith}
use native.Mathlib.Nat.{min-eq_left}
use lib.Ieee.{Float, nan, inf, fin, binary32, up, down, is_nan, lt, of_bits, to_bits}
use lib.Ieee.Fits.{down_pos}
use Rattle.float.specs.Order.{greater, lesser, clamp}
use Rattle.float.specs.Cells.{cell, ceiling, cell_count}
use Rattle.float.specs.Root.{square_root}

-- nothing is below NaN
below_nan : (x : Float) → lt x nan ≡ false
unfolding lt
below_nan nan = refl
below_nan (inf s) = refl
below_nan (fin s m e) = refl

-- the greater and the lesser pass over a NaN, on either side
pub over-nan : (x : Float) → (greater nan x ≡ x) × (greater x nan ≡ x) × (lesser nan x ≡ x) × (lesser x nan ≡ x)
unfolding greater lesser is_nan lt
over-nan nan = (refl, refl, refl, refl)
over-nan (inf s) = (refl, refl, refl, refl)
over-nan (fin s m e) = (refl, refl, refl, refl)

-- clamp lets it through
pub through : (lo hi : Float) → clamp nan lo hi ≡ nan
unfolding clamp lt
through lo hi = rw (below_nan hi)

-- x, the number m * up e / down e, is no more than its ceiling, which no whole number from x on is below
pub least : (m : ℕ) (e : ℤ) → m * up e ≤ (2 ^ 31 - 1) * down e
    → (m * up e ≤ ceiling (fin false m e) * down e) × ((k : ℕ) → m * up e ≤ k * down e → ceiling (fin false m e) ≤ k)
unfolding ceiling
least m e h =
    let a = m * up e in
    let d = down e in
    let c = (a + (d - 1)) / d in
    let p = down_pos e in
    let up_to : a ≤ c * d = let u : a + (d - 1) < (c + 1) * d = (div-lt_iff_lt-mul p).0 (omega arith) in omega (arith, add-mul c 1 d) in
    let first : (k : ℕ) → a ≤ k * d → c ≤ k = λ k g. let u : c < k + 1 = (div-lt_iff_lt-mul p).1 (omega (arith, add-mul k 1 d)) in omega arith in
    let few = first (2 ^ 31 - 1) h in
    (rw (min-eq_left few) up_to, λ k g. rw (min-eq_left few) (first k g))

-- a cell number is below the number of cells, and an extent takes 1 to 512 of them
pub cell_below : (x : Float) (dim : ℕ) → 0 < dim → cell x dim < dim
unfolding cell
cell_below x dim h = omega arith

pub count_range : (x : Float) → (1 ≤ cell_count x) × (cell_count x ≤ 512)
unfolding cell_count
count_range x = (omega arith, omega arith)

-- patterns of an operand and of its root: the largest number, 1, the two zeros, +∞, -1 and -∞ (NaN is written 7FC00000); more are in crates/facts
abbrev pub roots : List (ℕ × ℕ)
roots =
    (0x7f7f_ffff, 0x5f7f_ffff)
    ∷ (0x3f80_0000, 0x3f80_0000)
    ∷ (0x0000_0000, 0x0000_0000)
    ∷ (0x8000_0000, 0x8000_0000)
    ∷ (0x7f80_0000, 0x7f80_0000)
    ∷ (0xbf80_0000, 0x7fc0_0000)
    ∷ (0xff80_0000, 0x7fc0_0000)
    ∷ []

pub roots_hold : map (λ (p : ℕ × ℕ). to_bits binary32 (square_root (of_bits binary32 p.0))) roots ≡ map (λ (p : ℕ × ℕ). p.1) roots
unfolding to_bits square_root of_bits
roots_hold = refl
