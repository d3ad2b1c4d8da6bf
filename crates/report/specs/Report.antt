-- What `roomlight` prints of a file: document 01, 'The room file and `roomlight`'. Definitions only.
use Rattle.std.specs.Prelude.{true, false, List, [], ◌∷◌, ◌++◌, ℕ, leb, Float, length, drop, Result, Ok, Err}
use Rattle.accept.specs.Limits.{max_program_file}
use Rattle.accept.specs.Refusal.{number_of, checked, outcome}
use Rattle.accept.specs.declared.refusal.Refusal.{Refusal}
use Rattle.accept.specs.declared.refusal.Refusal.TheVariants as refusal
use Rattle.vector.specs.Flat.{rows}
use Rattle.vector.specs.Vector.{zero_vec}
use Rattle.surfel.specs.declared.Reading.{Reading}
use Rattle.surfel.specs.declared.Reading.TheVariants.{Seen, Unseen}
use Rattle.solve.specs.Runs.{settled}
use Rattle.file.specs.declared.Counts.{Counts}
use Rattle.file.specs.Blocks.{counts_in}
use Rattle.file.specs.Checks.{check}
use Rattle.file.specs.Rooms.{box_of_file}
use Rattle.lines.specs.Lines.{counts_line, bounces_line, probe_line, refused_line}
use Rattle.report.specs.Light.{run_of_file, grid_fits, reading_of_file}

-- the line of a probe, by its reading; an unseen one has zeros for light
abbrev pub reading_line : ℕ → Reading → List ℕ
reading_line i (Seen light) = probe_line i true light
reading_line i Unseen = probe_line i false zero_vec

-- the lines of the counts and of a run that made these bounces and ended with this change
unfoldable pub head_lines : Counts → ℕ → Float → List ℕ
head_lines c bounces change = counts_line c.surfels c.clusters c.links ++ bounces_line bounces change (settled bounces change)

-- the lines of a file that is accepted: the counts, the run, and each probe
unfoldable pub lines_of : List ℕ → List ℕ
lines_of b =
    let c = counts_in b in
    let q = run_of_file b in
    head_lines c q.bounces q.last ++ rows (λ i. reading_line i (reading_of_file b i)) c.probes

-- what refuses a file, which may have at most 65,536 bytes, if anything does
abbrev pub report_check : List ℕ → Result Unit Refusal
report_check b = check b max_program_file (grid_fits (box_of_file b))

-- the text: the lines, or only that the file is refused, and the number
unfoldable pub report : List ℕ → List ℕ
report b = outcome (λ refusal. refused_line (number_of refusal)) (lines_of b) (report_check b)

-- the bytes that a report needs at most
abbrev pub max_report : ℕ
max_report = 131072

-- the answer and the buffer: the text in front of it, or `Length` where it is shorter than that need
unfoldable pub report_answer : List ℕ → List ℕ → Result ℕ Refusal × List ℕ
report_answer b text =
    outcome (λ refusal. (Err refusal, text)) (Ok (length (report b)), report b ++ drop (length (report b)) text)
    (checked ((refusal.Length, leb max_report (length text)) ∷ []))
