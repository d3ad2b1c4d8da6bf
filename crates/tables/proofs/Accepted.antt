-- What it says of a scene's tests that a call is refused or not, both ways. Assumes nothing.
use Rattle.std.specs.Prelude.{Ok}
use mathlib.Core.Bool.{Bool, true}
use mathlib.Core.Path.{◌≡◌}
use Rattle.accept.specs.Refusal.{checked}
use Rattle.accept.proofs.Refused.{AllPassed, none_refused}
use Rattle.tables.specs.Tables.{Scene}
use Rattle.tables.specs.Checks.{counts_within, tables_hold, shapes_within, parts_fit, tests, check}

-- a call that is not refused passed them all
pub accepted : (s : Scene) (floats : Bool) → check s floats ≡ Ok tt → AllPassed (tests s floats)
unfolding check
accepted s floats h = none_refused (tests s floats) h

-- a scene that passes them refuses no call whose own floats are in range
pub not_refused : (s : Scene)
    → counts_within s ≡ true → tables_hold s ≡ true → shapes_within s ≡ true → parts_fit s ≡ true
    → check s true ≡ Ok tt
unfolding check checked
not_refused s a b d e = rw (a, b, d, e)
