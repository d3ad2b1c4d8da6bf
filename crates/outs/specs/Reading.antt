-- What reading a room file answers, told through the outs of a C function: document 01, 'The room file and `roomlight`' and 'Refused calls'. Each definition takes what the outs held and gives the number that is returned
-- with what they hold then: a refusal leaves them as they were. Definitions only.
use Rattle.std.specs.Prelude.{List, [], ◌∷◌, ℕ, Float, Result, Ok, Err}
use Rattle.accept.specs.Refusal.{number_of}
use Rattle.accept.specs.declared.refusal.Refusal.{Refusal}
use Rattle.file.specs.declared.Counts.{Counts}
use Rattle.file.specs.declared.ProbeBox.{ProbeBox}
use Rattle.room.specs.declared.Head.{Head}

-- the counts and the limit, in the order of the file's header
abbrev pub counts_told : Counts → List ℕ
counts_told c = c.surfels ∷ c.clusters ∷ c.members ∷ c.links ∷ c.probes ∷ c.limit ∷ []

-- the box, the side of a cell and the radius, in the order of the file's last block
abbrev pub sizes_told : ProbeBox → List Float
sizes_told b = b.lo.x ∷ b.lo.y ∷ b.lo.z ∷ b.hi.x ∷ b.hi.y ∷ b.hi.z ∷ b.cell ∷ b.radius ∷ []

-- what each answer leaves: a refusal its number, else 0 and what stands in the file beside its columns
abbrev pub read_left : Result Head Refusal → List ℕ → List Float → ℕ × List ℕ × List Float
read_left (Err refusal) counts sizes = (number_of refusal, counts, sizes)
read_left (Ok head) counts sizes = (0, counts_told head.counts, sizes_told head.bounds)
