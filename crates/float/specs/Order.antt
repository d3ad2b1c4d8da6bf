-- The greater, the lesser and the clamped float: document 01, 'The float rules below everything' (max and min pass over a NaN; clamp lets it through).
-- Definitions only.
use Rattle.std.specs.Prelude.{cond, is_nan, Float}
use Rattle.std.specs.Float.Ieee.{lt}

-- the greater of two, the first where neither is; where one is NaN, the other
unfoldable pub greater : Float → Float → Float
greater a b = cond (is_nan a) b (cond (lt a b) b a)

-- the lesser of two, the first where neither is; where one is NaN, the other
unfoldable pub lesser : Float → Float → Float
lesser a b = cond (is_nan a) b (cond (lt b a) b a)

-- x, or the end that it lies beyond
unfoldable pub clamp : Float → Float → Float → Float
clamp x lo hi = cond (lt x lo) lo (cond (lt hi x) hi x)
