-- The weights of a row scaled to their target: document 01, 'The rows' (if the row sum exceeds 1e-5 the row is scaled by min(target / sum, 8), target being 1 minus the open part of 16
-- directions, clamped to 0..1), in the order of the Rust's float steps. Definitions only.
use Rattle.std.specs.Prelude.{cond, List, map, Float, length}
use Rattle.std.specs.Float.{binary32}
use Rattle.std.specs.Float.Ieee.{of_bits, lt}
use Rattle.float.specs.Arithmetic.{◌-f◌, ◌*f◌, ◌/f◌, 0f, 1f}
use Rattle.float.specs.Column.{float_at}
use Rattle.float.specs.Order.{lesser, clamp}
use Rattle.vector.specs.Fold.{sum_of}

-- the sum of weights, in their order
unfoldable pub row_sum : List Float → Float
row_sum weights = sum_of (float_at weights) (length weights)

-- what a row's sum should be: 1 minus the open part, from 0 to 1
unfoldable pub target_of : Float → Float
target_of sky = clamp (1f -f sky) 0f 1f

-- what a row is scaled by: target / sum, 8 at most
unfoldable pub scale_to : Float → Float → Float
scale_to target sum = lesser (target /f sum) (of_bits binary32 0x4100_0000)

-- each weight times a scale
unfoldable pub scaled_by : Float → List Float → List Float
scaled_by scale weights = map (λ w. w *f scale) weights

-- weights with this sum, scaled to the target where the sum exceeds 1e-5
unfoldable pub calibrated : Float → Float → List Float → List Float
calibrated target sum weights = cond (lt (of_bits binary32 0x3727_c5ac) sum) (scaled_by (scale_to target sum) weights) weights

-- and the sum, scaled as they are: not a new sum
unfoldable pub calibrated_sum : Float → Float → Float
calibrated_sum target sum = cond (lt (of_bits binary32 0x3727_c5ac) sum) (sum *f scale_to target sum) sum
