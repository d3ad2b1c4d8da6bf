-- The weights of a row, one more at a time: summed and scaled. Assumes nothing.
use mathlib.Core.List.{List, [], ◌∷◌, ◌++◌}
use mathlib.Core.Path.{◌≡◌, refl, sym, ap, ◌∙◌}
use Prim.Native.Nat.{ℕ, ◌≤◌}
use native.Mathlib.Numerals.{add-one}
use native.Mathlib.Omega.{arith}
use lib.Ieee.{Float, binary32, nan, of_bits, lt}
use lib.ListN.{length, take, drop, length-take, length-append, length-map, get_or-append}
use lib.Seq.{sets, get_or-append_seam}
use Rattle.float.specs.Arithmetic.{◌+f◌, ◌*f◌, 0f}
use Rattle.float.specs.Column.{float_at}
use Rattle.vector.specs.Fold.{fold}
use Rattle.vector.proofs.Stored.{sets_front}
use Rattle.vector.proofs.Sums.{fold_same}
use Rattle.field.proofs.Chosen.{chosen}
use Rattle.links.specs.Scaling.{row_sum, scale_to, scaled_by, calibrated}

-- the sum with one weight more
pub row_sum_more : (ws : List Float) (w : Float) → row_sum (ws ++ (w ∷ [])) ≡ row_sum ws +f w
unfolding row_sum fold
row_sum_more ws w =
    rw (
      length-append ws (w ∷ []),
      add-one (length ws),
      get_or-append_seam ws w [] nan,
      fold_same (λ (a b : Float). a +f b) 0f (float_at (ws ++ (w ∷ []))) (float_at ws) (length ws) (λ j h. get_or-append ws (w ∷ []) nan j h),
    )

-- a weight for each weight
pub length_scaled : (k : Float) (xs : List Float) → length (scaled_by k xs) ≡ length xs
unfolding scaled_by
length_scaled k xs = length-map xs (λ (w : Float). w *f k)

pub length_calibrated : (target sum : Float) (ws : List Float) → length (calibrated target sum ws) ≡ length ws
unfolding calibrated
length_calibrated target sum ws =
    chosen (λ (l : List Float). length l ≡ length ws) (lt (of_bits binary32 0x3727_c5ac) sum) (scaled_by (scale_to target sum) ws) ws (length_scaled (scale_to target sum) ws) refl

-- the first k weights calibrated as a row of their own, and the others as they were
pub calibrated_front : (target sum : Float) (w : List Float) (k : ℕ) {row : List Float}
    → k ≤ length w → row ≡ calibrated target sum (take k w) → row ++ drop k w ≡ sets w 0 (calibrated target sum (take k w))
calibrated_front target sum w k {row} h e =
    let ws = calibrated target sum (take k w) in
    let n : length ws ≡ k = length_calibrated target sum (take k w) ∙ simp length-take (omega arith) in
    rw e (sym (sets_front w ws (omega (arith, n)) ∙ ap (λ (i : ℕ). ws ++ drop i w) n))
