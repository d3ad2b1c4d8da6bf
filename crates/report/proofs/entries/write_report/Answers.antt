-- `report::entries::write_report` meets its contract. What refuses the file is the definition's, and the text that is stored, which fits, is the one that it gives. Assumes nothing.
use mathlib.Core.Path.{◌≡◌, sym, ◌∙◌}
use native.Mathlib.Omega.{arith}
use Rattle.lines.specs.Lines.{refused_line}
use Rattle.report.specs.Report.{lines_of, report_check}
use Rattle.report.proofs.Printed.{report_lines, report_refused, report_stored}
use Rattle.report.proofs.entries.write_report.Goals as goal
use Rattle.report.proofs.entries.write_report.Goals.{After-check}

-- what the check answers
checked : (c : After-check) → c.check.result ≡ report_check c.args.bytes.now
checked c = rw (c.check.ensures, c.grid_fits-fits.ensures, c.probe_box.ensures, c.new-file.ensures)

pub returns-in-Ok : goal.returns-in-Ok
returns-in-Ok c =
    let b = c.args.bytes.now in
    let e = sym (checked (goal.at.returns-in-Ok c).After-check) ∙ c.in-Ok.is in
    let w = rw c.new-file.ensures at c.write_lines.ensures.text_after in
    let v = rw c.new-file.ensures at c.write_lines.ensures.value in
    let h = report_stored b c.args.text.now (lines_of b) c.requires (report_lines b e) w v in
    record { text_after = h.0; value = h.1 }

pub returns-in-Err : goal.returns-in-Err
returns-in-Err c =
    let b = c.args.bytes.now in
    let number = c.from.result in
    let e = sym (checked (goal.at.returns-in-Err c).After-check) ∙ c.in-Err.is in
    let put = rw c.refused.ensures at c.put_line.ensures in
    let h = report_stored b c.args.text.now (refused_line number) c.requires (rw c.from.ensures (report_refused b c.in-Err.refusal e)) put.text_after (omega (arith, put.value)) in
    record { text_after = h.0; value = h.1 }
