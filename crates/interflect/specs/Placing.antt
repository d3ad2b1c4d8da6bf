-- What placement leaves through the C interface: document 01, 'Placement' and 'Refused calls'. It gives the number that is returned with what count and the columns hold then: a refusal
-- leaves them as they were. Definitions only.
use Rattle.std.specs.Prelude.{ℕ}
use Rattle.placement.specs.Answers.{generate_answer}
use Rattle.placement.specs.Lent.{Request, Columns}
use Rattle.outs.specs.Outs.{left}

-- the entry
abbrev pub interflect_generate : Request → ℕ → Columns → ℕ → ℕ → ℕ × ℕ × Columns
interflect_generate o held l head next =
    let a = generate_answer o l head next in
    let told = left a.0 held in
    (told.0, told.1, a.1)
