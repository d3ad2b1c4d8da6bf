-- `report::entries::write_lines` meets its contract. What the solve and the readings left are the definitions' run and readings, and the lines of them are stored one after the other. Assumes nothing.
use mathlib.Core.Path.{◌≡◌, ap, ◌∙◌}
use Prim.Native.Nat.{◌*◌, ◌≤◌}
use native.Mathlib.Omega.{arith}
use borrow.Author.Rules.{rules}
use lib.ListN.{length, length-take}
use lib.Seq.{sets}
use Rattle.std.proofs.lemmas.List.{length-drop}
use Rattle.file.specs.declared.Counts.{Counts}
use Rattle.vector.specs.Flat.{rows}
use Rattle.report.proofs.Bounced.{run_few}
use Rattle.report.proofs.Fitting.{cut-length}
use Rattle.report.proofs.Texts.{line_at, lines_within, more_stored}
use Rattle.report.proofs.Printed.{head_width, lines_are}
use Rattle.report.proofs.entries.write_lines.Goals as goal
use Rattle.report.proofs.entries.write_lines.Goals.{After-put_head-end}

pub put_head-end-requires : goal.put_head-end-requires
put_head-end-requires c =
    record { bounces_bound = rw c.solve-made.ensures.bounces_value (run_few c.args.file.now.file.now c.args.file.now.accepted); room = omega arith }

-- where the lines of the probes begin, and how many there are
record Begun (c : After-put_head-end) : Type 0 where
  head : c.put_head-end.result ≤ 101
  text : length c.put_head-end.new.text ≡ length c.args.text.now
  few : 6 * c.counts-c.result.probes ≤ 16384
  probes : length c.read.new.seen ≡ c.counts-c.result.probes

begun : (c : After-put_head-end) → Begun c
begun c = record {
  head = omega (arith, c.put_head-end.ensures.value, head_width c.counts-c.result c.solve-made.result.bounces c.solve-made.result.change);
  text = c.put_head-end.auto.text;
  few = omega arith;
  probes = c.read.auto.seen ∙ cut-length 16384 c.wide-count.result 0 (omega arith) ∙ c.wide-count.ensures;
}

pub slice_bounds-put_probes-count : goal.slice_bounds-put_probes-count
slice_bounds-put_probes-count c = let h = begun (goal.at.slice_bounds-put_probes-count c).After-put_head-end in omega arith

pub slice_bounds-put_probes-start : goal.slice_bounds-put_probes-start
slice_bounds-put_probes-start c = let h = slice_bounds-put_probes-count c in search rules

pub put_probes-requires : goal.put_probes-requires
put_probes-requires c =
    let h = begun (goal.at.put_probes-requires c).After-put_head-end in
    record { few = omega arith; room = rw (length-take, length-drop) (omega arith) }

pub overflow_add-result : goal.overflow_add-result
overflow_add-result c =
    let h = begun (goal.at.overflow_add-result c).After-put_head-end in
    omega (arith, c.put_probes.ensures.value, lines_within c.read.new.seen c.read.new.light (length c.read.new.seen) (omega arith))

pub returns : goal.returns
returns c =
    let h = begun (goal.at.returns c).After-put_head-end in
    let b = c.args.file.now.file.now in
    let seen = c.read.new.seen in let light = c.read.new.light in
    let run = c.solve-made.ensures in
    let head = c.put_head-end.ensures in
    let e = lines_are b _ _ c.counts-c.ensures.value run.bounces_value run.change_value c.read.ensures.seen_after c.read.ensures.light_after (h.probes ∙ ap (λ (x : Counts). x.probes) c.counts-c.ensures.value) in
    let put = c.put_probes.ensures in
    let w = more_stored c.args.text.now _ (rows (line_at seen light) (length seen)) head.text_after head.value (omega (arith, lines_within seen light (length seen) (omega arith))) put.text_after put.value in
    record { text_after = w.0 ∙ ap (sets c.args.text.now 0) e; value = w.1 ∙ ap length e }
