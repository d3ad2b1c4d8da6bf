-- The channels of a vector by their number. No public contract cites it. Definitions only.
use Rattle.std.specs.Prelude.{ℕ, Float}
use Rattle.float.specs.Column.{float_at}
use Rattle.vector.specs.declared.Vec3.{Vec3}
use Rattle.vector.specs.Flat.{components}

-- x, y and z are channels 0, 1 and 2
abbrev pub channel : ℕ → Vec3 → Float
channel d v = float_at (components v) d
