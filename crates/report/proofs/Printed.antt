-- The two reports that there are, and that each fits into the bytes that a report needs at most. Assumes nothing.
use Rattle.std.specs.Prelude.{Result, Ok, Err, Some, None}
use Rattle.accept.specs.Refusal.{number_of}
use Rattle.accept.specs.declared.refusal.Refusal.{Refusal}
use mathlib.Core.Bool.{cond}
use mathlib.Core.List.{List, ◌++◌}
use mathlib.Core.Path.{◌≡◌, refl, ap}
use Prim.Native.Nat.{ℕ, ◌≤◌}
use native.Mathlib.Omega.{arith}
use lib.Dec.{eqb}
use lib.Ieee.{Float}
use lib.ListN.{length, drop, length-append}
use lib.Seq.{sets}
use Rattle.vector.specs.Flat.{rows, filled, written}
use Rattle.vector.proofs.Stored.{sets_front}
use Rattle.accept.specs.Limits.{max_program_file}
use Rattle.surfel.specs.Answers.{seen_number, seen_light}
use Rattle.solve.specs.Runs.{settled}
use Rattle.file.specs.declared.Counts.{Counts}
use Rattle.file.specs.Blocks.{counts_in}
use Rattle.file.specs.Rooms.{box_of_file}
use Rattle.file.proofs.Accepted.{passed, file_ends}
use Rattle.lines.specs.Lines.{refused_line}
use Rattle.lines.proofs.Widths.{counts_width, bounces_width, probed_width, refused_width}
use Rattle.report.specs.Light.{grid_fits, run_of_file, reading_of_file}
use Rattle.report.specs.Report.{reading_line, head_lines, lines_of, report, report_check, max_report}
use Rattle.report.proofs.Texts.{line_at, rows_within, lines_read, reading_line_lem}

-- the report on a file that is accepted is its lines, and on any other the number that refuses it
pub report_lines : (b : List ℕ) → report_check b ≡ Ok tt → report b ≡ lines_of b
unfolding report
report_lines b e = rw e

pub report_refused : (b : List ℕ) (r : Refusal) → report_check b ≡ Err r → report b ≡ refused_line (number_of r)
unfolding report
report_refused b r e = rw e

-- a file that is accepted has at most 2,726 probes, of 24 bytes each
pub probes_few : (b : List ℕ) → report_check b ≡ Ok tt → (counts_in b).probes ≤ 2726
probes_few b e =
    let p = passed b max_program_file (grid_fits (box_of_file b)) e in
    omega (arith, file_ends b max_program_file p.formed_passed)

-- the first two lines
pub head_width : (c : Counts) (bounces : ℕ) (change : Float) → length (head_lines c bounces change) ≤ 101
unfolding head_lines
head_width c bounces change =
    rw length-append
    (omega (arith, counts_width c.surfels c.clusters c.links, bounces_width bounces change (settled bounces change)))

-- and those of the probes, of at most 45 bytes each
pub lines_fit : (b : List ℕ) → report_check b ≡ Ok tt → length (lines_of b) ≤ max_report
unfolding lines_of
lines_fit b e =
    let n = probes_few b e in
    let q = run_of_file b in
    let h = head_width (counts_in b) q.bounces q.last in
    let w = rows_within (λ i. reading_line i (reading_of_file b i)) 45 (counts_in b).probes
    (λ i k. let r = reading_of_file b i in rw (← reading_line_lem i r) (probed_width i (cond (eqb (seen_number r) 1) (Some (seen_light r)) None) (omega arith))) in
    rw length-append (omega arith)

-- a report is never longer than its need
pub report_fits : (b : List ℕ) → length (report b) ≤ max_report
report_fits b = by (report_check b) refl
  where
    by : (t : Result Unit Refusal) → report_check b ≡ t → length (report b) ≤ max_report
    by (Ok u) e = rw (report_lines b e) (lines_fit b e)
    by (Err r) e = rw (report_refused b r e) (omega (arith, refused_width (number_of r)))

-- ---- a report that was written

-- a report that is stored from the front on is in front of what was there
pub report_stored : (b text t : List ℕ) {e : List ℕ} {r : ℕ} → max_report ≤ length text → report b ≡ t → e ≡ sets text 0 t → r ≡ length t
    → (e ≡ report b ++ drop (length (report b)) text) × (r ≡ length (report b))
report_stored b text t h p q s = (rw (p, q) (sets_front text t (omega (arith, report_fits b, ap length p))), rw (p, s))

-- the first two lines, and after them those of the probes, are the lines of the file
pub lines_are : (b s : List ℕ) (l : List Float) {c : Counts} {bounces : ℕ} {change : Float} {seen : List ℕ} {light : List Float}
    → c ≡ counts_in b → bounces ≡ (run_of_file b).bounces → change ≡ (run_of_file b).last
    → seen ≡ filled (λ i. seen_number (reading_of_file b i)) (counts_in b).probes s
    → light ≡ written (λ i. seen_light (reading_of_file b i)) (counts_in b).probes l
    → length seen ≡ (counts_in b).probes
    → head_lines c bounces change ++ rows (line_at seen light) (length seen) ≡ lines_of b
unfolding lines_of
lines_are b s l p q r u v n = rw (p, q, r, n, lines_read (reading_of_file b) (counts_in b).probes s l u v)
