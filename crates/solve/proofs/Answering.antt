-- What a solve that is not refused answers. Assumes nothing.
use mathlib.Core.List.{List}
use mathlib.Core.Path.{◌≡◌}
use Prim.Native.Nat.{ℕ}
use lib.Ieee.{Float}
use lib.ListN.{length}
use Rattle.transfer.specs.Room.{Room, light_of}
use Rattle.std.specs.Prelude.{Ok}
use Rattle.transfer.specs.Checks.{check}
use Rattle.solve.specs.declared.SolveStats.{SolveStats}
use Rattle.solve.specs.Runs.{run, clusters_after}
use Rattle.solve.specs.Answers.{run_of, solve_answer}

-- a solve that is not refused answers and leaves what its run does
pub solve_done : (r : Room) (limit : ℕ) (irr rad s : List Float) {made : SolveStats} {i b t : List Float} → check r limit (length irr) (length rad) (length s) ≡ Ok tt
    → run_of made (light_of i b) ≡ run r limit (light_of irr rad) → t ≡ clusters_after r made.bounces (light_of irr rad) s
    → (Ok made, light_of i b, t) ≡ solve_answer r limit (light_of irr rad) s
unfolding solve_answer
solve_done r limit irr rad s e p q = rw (e, ← p, q)
