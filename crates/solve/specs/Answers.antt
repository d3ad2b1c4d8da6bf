-- What a solve answers and leaves, refused or not: document 01, 'The solve' and 'Refused calls'. Definitions only.
use Rattle.std.specs.Prelude.{List, ℕ, Float, length, Result, Ok, Err}
use Rattle.accept.specs.declared.refusal.Refusal.{Refusal}
use Rattle.accept.specs.Refusal.{outcome}
use Rattle.solve.specs.declared.SolveStats.{SolveStats}
use Rattle.transfer.specs.Room.{Room, Light}
use Rattle.solve.specs.Runs.{Run, run, clusters_after}
use Rattle.transfer.specs.Checks.{check}

-- the bounces that a run made, and its last change
abbrev pub stats_of : Run → SolveStats
stats_of q = record { bounces = q.bounces; change = q.last }

-- the run that made these and left the light l
abbrev pub run_of : SolveStats → Light → Run
run_of made l = record { bounces = made.bounces; last = made.change; light = l }

-- a solve of the room with this limit, from the light l, with the scratch s: the answer, the light, and the scratch
unfoldable pub solve_answer : Room → ℕ → Light → List Float → Result SolveStats Refusal × Light × List Float
solve_answer r limit l s =
    let q = run r limit l in
    outcome (λ refusal. (Err refusal, l, s)) (Ok (stats_of q), q.light, clusters_after r q.bounces l s)
    (check r limit (length l.irr) (length l.rad) (length s))
