-- What rows answer, told through the outs of a C function: document 01, 'The rows' and 'Refused calls'. Each definition takes what the outs held and gives the number that is returned
-- with what they hold then: a refusal leaves them as they were, but 8 tells the row that did not fit. Definitions only.
use Rattle.std.specs.Prelude.{ℕ, Result, Ok, Err}
use Rattle.formfactor.specs.declared.BuildError.{BuildError}
use Rattle.formfactor.specs.declared.BuildError.TheVariants.{Refused, Full}
use Rattle.formfactor.specs.declared.Built.{Built}
use Rattle.formfactor.specs.Answers.{number_of}
use Rattle.outs.specs.Outs.{BuildOut}

-- what each answer leaves: a refusal its number, else 0 and the answer's own numbers; a row that did not fit is told by its number
abbrev pub built_left : Result Built BuildError → BuildOut → BuildOut
built_left (Ok b) held = record { built = b; row = held.row }
built_left (Err (Refused refusal)) held = held
built_left (Err (Full row)) held = record { built = held.built; row = row }

abbrev pub build_left : Result Built BuildError → BuildOut → ℕ × BuildOut
build_left a held = (number_of a, built_left a held)
