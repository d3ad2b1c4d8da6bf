-- What the report on a room file leaves through the C interface: document 01, 'The room file and `roomlight`'. It gives the number that is returned with what the length and the text hold
-- then. Definitions only.
use Rattle.std.specs.Prelude.{List, ℕ}
use Rattle.report.specs.Report.{report_answer}
use Rattle.outs.specs.Outs.{left}

-- the entry
abbrev pub interflect_room_report : List ℕ → ℕ → List ℕ → ℕ × ℕ × List ℕ
interflect_room_report b held text =
    let a = report_answer b text in
    let told = left a.0 held in
    (told.0, told.1, a.1)
