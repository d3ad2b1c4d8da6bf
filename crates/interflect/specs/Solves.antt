-- What the solve and the reset leave through the C interface: document 01, 'The solve' and 'Refused calls'. Each gives the number that is returned with what the outs and the slices
-- hold then: a refused call leaves them as they were. Definitions only.
use Rattle.std.specs.Prelude.{List, ℕ, Float}
use Rattle.solve.specs.Answers.{solve_answer}
use Rattle.reset.specs.Resetting.{reset_answer}
use Rattle.records.specs.Columns.{directs, irrs, rads}
use Rattle.records.specs.declared.Light.{Light as LightRecord}
use Rattle.transfer.specs.Room.{Room, Light}
use Rattle.accept.specs.Refusal.{refusal_number}
use Rattle.solve.specs.declared.SolveStats.{SolveStats}
use Rattle.outs.specs.Outs.{left}

-- the entries
abbrev pub interflect_solve : Room → ℕ → SolveStats → Light → List Float → ℕ × SolveStats × Light × List Float
interflect_solve r limit held l s =
    let a = solve_answer r limit l s in
    let told = left a.0 held in
    (told.0, told.1, a.1, a.2)

abbrev pub interflect_reset : List Float → List Float → List Float → List Float → ℕ × List Float × List Float × List Float
interflect_reset light direct irr rad =
    let a = reset_answer light direct irr rad in
    (refusal_number a.0, a.1, a.2, a.3)

-- a number with the three columns of the records that a call left
abbrev pub records_left : ℕ → List LightRecord → ℕ × List Float × List Float × List Float
records_left number rs = (number, directs rs, irrs rs, rads rs)

-- a reset of records is the reset of their columns
abbrev pub interflect_reset_records : List Float → List LightRecord → ℕ × List Float × List Float × List Float
interflect_reset_records light rs = interflect_reset light (directs rs) (irrs rs) (rads rs)
