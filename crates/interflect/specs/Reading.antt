-- What reading a room file leaves through the C interface: document 01, 'The room file and `roomlight`' and 'Refused calls'. It gives the number that is returned with what the two
-- arrays and the columns hold then: a refusal leaves them as they were. Definitions only.
use Rattle.std.specs.Prelude.{List, ℕ, Float}
use Rattle.room.specs.Answers.{room_read_answer}
use Rattle.room.specs.Lent.{Columns}
use Rattle.outs.specs.Reading.{read_left}

-- the entry
abbrev pub interflect_room_read : List ℕ → List ℕ → List Float → Columns → ℕ × List ℕ × List Float × Columns
interflect_room_read b counts sizes l =
    let a = room_read_answer b l in
    let left = read_left a.0 counts sizes in
    (left.0, left.1, left.2, a.1)
