-- A point moved onto the surface: document 01, 'Placement' (projected in at most ten steps), in the order of the Rust's float steps. Definitions only.
use Rattle.std.specs.Prelude.{cond, ℕ, zero, suc, Float, Option, Some, None}
use Rattle.std.specs.Float.Ieee.{lt, le}
use Rattle.std.specs.Float.Ieee.Scale.{finite}
use Rattle.float.specs.Sign.{abs}
use Rattle.vector.specs.declared.Vec3.{Vec3}
use Rattle.vector.specs.Vector.{minus, scaled}
use Rattle.tables.specs.Tables.{Scene}
use Rattle.field.specs.Nearest.{dist}
use Rattle.field.specs.Gradient.{normal}

-- the second test, of the point found: its distance is not eps or more
unfoldable pub confirmed : Scene → Float → Vec3 → Option Vec3
confirmed s eps p = cond (le eps (abs (dist s p))) None (Some p)

-- p moved against the normal by its distance
unfoldable pub moved : Scene → Vec3 → Vec3
moved s p = minus p (scaled (normal s p) (dist s p))

-- at most `left` tests more, each before its move: none where the distance is not finite or beyond diag
unfoldable pub project_from : Scene → Float → Float → ℕ → Vec3 → Option Vec3
project_from s eps diag zero p = None
project_from s eps diag (suc left) p =
    let d = dist s p in
    cond (lt (abs d) eps) (confirmed s eps p)
    (cond (finite d) (cond (lt diag (abs d)) None (project_from s eps diag left (moved s p))) None)

-- at most ten tests
unfoldable pub project : Scene → Vec3 → Float → Float → Option Vec3
project s p eps diag = project_from s eps diag 10 p
