-- What the entries on a grid answer and leave, refused or not: document 01, 'The grid' and 'Refused calls'. Definitions only.
use Rattle.std.specs.Prelude.{true, List, [], ◌∷◌, ◌++◌, ℕ, leb, Result, Ok, Err, Float, length}
use Rattle.std.proofs.lemmas.List.Edits.{sets}
use Rattle.float.specs.Arithmetic.{◌/f◌, 1f}
use Rattle.vector.specs.declared.Vec3.{Vec3}
use Rattle.accept.specs.Limits.{max_reach}
use Rattle.accept.specs.Ranges.{point}
use Rattle.accept.specs.Refusal.{checked, outcome}
use Rattle.accept.specs.Tables.{at_most}
use Rattle.accept.specs.declared.refusal.Refusal.{Refusal}
use Rattle.accept.specs.declared.refusal.Refusal.TheVariants.{Length}
use Rattle.grid.specs.declared.checks.Own.{Own}
use Rattle.grid.specs.declared.Dims.{Dims}
use Rattle.grid.specs.Lent.{Grid}
use Rattle.grid.specs.Visiting.{visited}
use Rattle.grid.specs.Building.{grid_starts, grid_items}
use Rattle.grid.specs.Cells.{dims_of}
use Rattle.grid.specs.Checks.{tests, check_build}

-- a grid of n points: the answer, starts and items
unfoldable pub grid_build_answer : ℕ → List Float → Vec3 → Vec3 → Float → List ℕ → List ℕ → Result Dims Refusal × List ℕ × List ℕ
grid_build_answer n p lo hi side starts items =
    let d = dims_of lo hi side in
    outcome (λ refusal. (Err refusal, starts, items))
    (Ok d, grid_starts n p lo (1f /f side) d starts, grid_items n p lo (1f /f side) d items)
    (check_build n p lo hi side (length starts) (length items))

-- what the tests of a reach and a point say
abbrev pub near_own : Vec3 → ℕ → Own
near_own p reach = record { few = true; ranged = at_most reach max_reach; lent = true; floats = point p }

-- the numbers near p: the answer and the list; that the list holds them is tested last
unfoldable pub near_answer : Grid → Vec3 → ℕ → List ℕ → Result ℕ Refusal × List ℕ
near_answer g p reach list =
    let v = visited g p reach in
    outcome (λ refusal. (Err refusal, list)) (Ok (length v), sets list 0 v)
    (checked (tests g (near_own p reach) ++ ((Length, leb (length v) (length list)) ∷ [])))
