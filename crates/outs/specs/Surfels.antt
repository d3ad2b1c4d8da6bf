-- What a reading answers, told through the outs of a C function: document 01, 'The reading' and 'Refused calls'. The definition takes what the outs held and gives the number that is returned
-- with what they hold then: a refusal leaves them as they were. Definitions only.
use Rattle.std.specs.Prelude.{ℕ, Result, Ok, Err}
use Rattle.accept.specs.Refusal.{number_of}
use Rattle.accept.specs.declared.refusal.Refusal.{Refusal}
use Rattle.surfel.specs.Answers.{seen_number, seen_light}
use Rattle.surfel.specs.declared.Reading.{Reading}
use Rattle.outs.specs.Outs.{ReadingOut}

-- 1 and the light, or 0 and zeros
abbrev pub reading_left : Reading → ReadingOut
reading_left r = record { seen = seen_number r; light = seen_light r }

-- a refusal its number, else 0 and the reading
abbrev pub gather_left : Result Reading Refusal → ReadingOut → ℕ × ReadingOut
gather_left (Ok r) held = (0, reading_left r)
gather_left (Err refusal) held = (number_of refusal, held)
