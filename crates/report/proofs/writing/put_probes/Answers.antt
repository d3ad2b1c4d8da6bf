-- `report::writing::put_probes` meets its contract. After i turns the first i lines are stored, of at most 45 bytes each. Assumes nothing.
use mathlib.Core.Path.{◌≡◌, refl}
use Prim.Native.Nat.{◌≤◌}
use native.Mathlib.Omega.{arith}
use borrow.Author.Rules.{rules}
use lib.ListN.{length}
use Rattle.vector.specs.Flat.{rows}
use Rattle.vector.proofs.Stored.{rows_more}
use Rattle.lines.proofs.Widths.{probed_width}
use Rattle.report.specs.Needs.{seen_in}
use Rattle.report.proofs.Texts.{line_at, lines_within, more_stored}
use Rattle.report.proofs.writing.put_probes.Goals as goal

pub loop-i-init : goal.loop-i-init
unfolding rows
loop-i-init c = (refl, refl)

-- the lines so far end within the text
ends : (c : goal.After-probed-line) → c.loop-i.end ≤ length c.loop-i.text
ends c =
    let seen = c.args.seen.now in let light = c.args.light.now in let i = c.loop-i.i in
    let n : length c.loop-i.text ≡ length c.args.text.now = c.loop-i.auto.text in
    omega (arith, c.requires.room, c.loop-i.invariant.1, lines_within seen light i (omega arith))

pub slice_bounds-put_line-count : goal.slice_bounds-put_line-count
slice_bounds-put_line-count c = ends c

pub slice_bounds-put_line-start : goal.slice_bounds-put_line-start
slice_bounds-put_line-start c = let h = ends c in search rules

pub overflow_add-end : goal.overflow_add-end
overflow_add-end c =
    let seen = c.args.seen.now in let light = c.args.light.now in let i = c.loop-i.i in
    let put = rw (c.probed-line.ensures, c.seen_in.ensures) at c.put_line-end.ensures in
    omega (arith, c.loop-i.invariant.1, lines_within seen light i (omega arith), put.value, probed_width i (seen_in seen light i) (omega arith))

pub loop-i-preserved : goal.loop-i-preserved
loop-i-preserved c =
    let seen = c.args.seen.now in let light = c.args.light.now in let i = c.loop-i.i in
    let put = rw (c.probed-line.ensures, c.seen_in.ensures) at c.put_line-end.ensures in
    rw (rows_more (line_at seen light) i)
    (more_stored c.args.text.now (rows (line_at seen light) i) (line_at seen light i) c.loop-i.invariant.0 c.loop-i.invariant.1
    (omega (arith, lines_within seen light i (omega arith), probed_width i (seen_in seen light i) (omega arith))) put.text_after put.value)
