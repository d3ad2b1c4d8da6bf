-- A list of points with one more behind them. Assumes nothing.
use mathlib.Core.List.{List, [], ◌∷◌, ◌++◌}
use mathlib.Core.Path.{◌≡◌}
use Prim.Native.Nat.{ℕ, ◌+◌, ◌<◌}
use lib.ListN.{length, length-append, get_or-append}
use lib.Seq.{get_or-append_seam}
use Rattle.vector.specs.declared.Vec3.{Vec3}
use Rattle.vector.specs.Vector.{zero_vec}
use Rattle.placement.specs.Kept.{point_at}

module _ (ps : List Vec3) (v : Vec3) where
  pub length_more : length (ps ++ (v ∷ [])) ≡ length ps + 1
  length_more = length-append ps (v ∷ [])

  pub point_before : (j : ℕ) → j < length ps → point_at (ps ++ (v ∷ [])) j ≡ point_at ps j
  point_before j h = get_or-append ps (v ∷ []) zero_vec j h

  pub point_last : point_at (ps ++ (v ∷ [])) (length ps) ≡ v
  point_last = get_or-append_seam ps v [] zero_vec
