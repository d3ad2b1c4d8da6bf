-- The sign of a float: document 01, 'The float rules below everything', and IEEE 754-2019's abs. A float is NaN, an infinity, or `fin s m e`,
-- the number m * 2 ^ e, negative where s is true. Definitions only.
use Rattle.std.specs.Prelude.{Bool, false, pos, Float}
use Rattle.std.specs.Float.{nan, inf, fin}

-- the number without its sign
unfoldable pub abs : Float → Float
abs nan = nan
abs (inf s) = inf false
abs (fin s m e) = fin false m e

-- 1, or -1 where s is true
abbrev pub unit : Bool → Float
unit s = fin s 1 (pos 0)

-- 1 with the sign of the number, also of a zero
unfoldable pub signum : Float → Float
signum nan = nan
signum (inf s) = unit s
signum (fin s m e) = unit s
