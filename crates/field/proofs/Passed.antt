-- A part whose base is surely no nearer than the best may be passed over: what is subtracted only makes a distance greater. Assumes nothing.
use mathlib.Core.Path.{◌≡◌, sym, ◌∙◌}
use mathlib.Core.Bool.{Bool, true, false, not}
use Prim.Native.Nat.{ℕ, zero, suc}
use borrow.Author.Tests.{not-false}
use lib.Ieee.{Float, lt, le}
use Rattle.float.specs.Arithmetic.{0f}
use Rattle.float.specs.Order.{greater}
use Rattle.vector.specs.declared.Vec3.{Vec3}
use Rattle.vector.specs.Fold.{fold}
use Rattle.sdf.specs.declared.Shape.{Shape}
use Rattle.sdf.specs.Beyond.{far as shape_far}
use Rattle.sdf.proofs.Spared.{far_dist, far_positive, le_not_lt, le_greater}
use Rattle.tables.specs.declared.Part.{Part}
use Rattle.field.specs.declared.DistHit.{DistHit}
use Rattle.field.specs.Nearest.{part_dist, part_hit, nearer}
use Rattle.field.proofs.Readings.{tie_to_earlier}

-- the greatest of d and n more is no less than best, where d is no less
fold_greater : (best d : Float) (f : ℕ → Float) (n : ℕ) → lt 0f best ≡ true → le best d ≡ true → le best (fold greater d f n) ≡ true
unfolding fold
fold_greater best d f zero z h = h
fold_greater best d f (suc n) z h = le_greater best (fold greater d f n) (f n) z (fold_greater best d f n z h)

module _ (shape : ℕ → Shape) (p : Vec3) (part : Part) where
  -- the part is no nearer than best
  pub part_far : (best : Float) → shape_far (shape part.base) p best ≡ true → le best (part_dist shape part p) ≡ true
  unfolding part_dist
  part_far best h = fold_greater best _ _ part.many (far_positive (shape part.base) p best h) (far_dist (shape part.base) p best h)

  -- so the best stays the best
  pub passed_over : (best : DistHit) → shape_far (shape part.base) p best.d ≡ true → nearer best (part_hit shape p part) ≡ best
  unfolding part_hit
  passed_over best h = tie_to_earlier best (part_hit shape p part) (le_not_lt best.d (part_dist shape part p) (part_far best.d h))

  -- the next best t: where the part is asked, and where it is passed over
  pub best_asked : (best : DistHit) {new near t : DistHit} → new ≡ part_hit shape p part → near ≡ nearer best new → t ≡ near → t ≡ nearer best (part_hit shape p part)
  best_asked best e n g = rw (g, n, e)

  pub best_kept : (best : DistHit) {t : DistHit} {r : Bool} {base : Shape} → base ≡ shape part.base → r ≡ shape_far base p best.d → not r ≡ false → t ≡ best → t ≡ nearer best (part_hit shape p part)
  best_kept best {t} {r} b e h g = g ∙ sym (passed_over best (rw (← b) (sym e ∙ not-false r h)))
