-- `report::writing::put_head` meets its contract. The two lines are stored one after the other. Assumes nothing.
use native.Mathlib.Omega.{arith}
use Rattle.solve.specs.Runs.{settled}
use Rattle.lines.proofs.Widths.{counts_width, bounces_width}
use Rattle.report.specs.Report.{head_lines}
use Rattle.report.proofs.Texts.{more_stored}
use Rattle.report.proofs.writing.put_head.Goals as goal

pub returns : goal.returns
unfolding head_lines
returns c =
    let k = c.args.c in let q = c.args.made in
    let first = rw c.counts-counts.ensures at c.put_line-end.ensures in
    let second = rw (c.bounces-run.ensures, c.settled.ensures) at c.put_line.ensures in
    let h = more_stored c.args.text.now _ _ first.text_after first.value
    (omega (arith, c.requires.room, counts_width k.surfels k.clusters k.links, bounces_width q.bounces q.change (settled q.bounces q.change))) second.text_after second.value in
    record { text_after = h.0; value = h.1 }
