-- `file::floats::column_within` meets its contract. The loop has tested the first i entries. Assumes nothing.
use mathlib.Core.Path.{◌≡◌, sym, ◌∙◌}
use native.Mathlib.Omega.{arith}
use borrow.Author.Rules.{rules}
use Rattle.accept.proofs.Every.{every_none, every_more}
use Rattle.file.proofs.Entries.{column_within}
use Rattle.file.proofs.floats.column_within.Goals as goal

pub loop-i-init : goal.loop-i-init
loop-i-init c =
    (search rules, every_none _)

pub overflow_mul-col : goal.overflow_mul-col
overflow_mul-col c =
    let p = c.requires in
    omega (arith, p.few, p.each c.loop-i.i c.loop-i-test.true)

pub overflow_add-col : goal.overflow_add-col
overflow_add-col c =
    let p = c.requires in
    omega (arith, p.few, p.each c.loop-i.i c.loop-i-test.true)

pub entry_within-ok-requires : goal.entry_within-ok-requires
entry_within-ok-requires c =
    c.requires.each c.loop-i.i c.loop-i-test.true

pub loop-i-preserved : goal.loop-i-preserved
loop-i-preserved c =
    (search rules, every_more _ _ c.loop-i.invariant.1 c.entry_within-ok.ensures)

pub returns : goal.returns
returns c =
    let a = c.args in
    let e : c.loop-i.i ≡ a.col.count = omega arith in
    rw e at c.loop-i.invariant.1 ∙ sym (column_within a.bytes.now a.col a.lo a.hi)
