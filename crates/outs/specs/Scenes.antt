-- What a ray's answer leaves, told through the outs of a C function: document 01, 'Refused calls' and 'Distance and marching'. Each definition takes what the outs held and gives the number that is returned
-- with what they hold then: a refusal leaves them as they were. Definitions only.
use Rattle.std.specs.Prelude.{ℕ, Option, Some, None, Result, Ok, Err}
use Rattle.accept.specs.Refusal.{number_of}
use Rattle.accept.specs.declared.refusal.Refusal.{Refusal}
use Rattle.scene.specs.declared.Hit.{Hit}
use Rattle.scene.specs.declared.Traced.{Traced}
use Rattle.outs.specs.Outs.{TraceOut}

-- a ray that meets nothing leaves the hit as it was
abbrev pub found_left : Option Hit → ℕ → TraceOut → TraceOut
found_left (Some h) evals held = record { hit = 1; at = h; evals = evals }
found_left None evals held = record { hit = 0; at = held.at; evals = evals }

-- what a ray met, with its evaluations
abbrev pub traced_left : Traced → TraceOut → TraceOut
traced_left r held = found_left r.found r.evals held

-- a refusal its number, else 0 and what the ray met
abbrev pub trace_left : Result Traced Refusal → TraceOut → ℕ × TraceOut
trace_left (Ok r) held = (0, traced_left r held)
trace_left (Err refusal) held = (number_of refusal, held)
