-- `grid::walking::RowsIterator::next` meets its contract. The next row is row y of layer z; it lies in the tables. Assumes nothing.
use mathlib.Core.Path.{sym, ap, ◌∙◌}
use native.Mathlib.Omega.{arith}
use borrow.Author.Rules.{rules}
use lib.ListN.{length}
use Rattle.grid.proofs.Walked.{rows_done, row_next, layer_next}
use Rattle.grid.proofs.walking.RowsIterator.next.Goals as goal
use Rattle.grid.proofs.walking.RowsIterator.next.Goals.{then-self-2, else-self-2}

pub returns-then-self-clause-steps : goal.returns-then-self-clause-steps
returns-then-self-clause-steps c =
    let i = c.self.inside in
    let e = sym c.self.view_is ∙ rows_done i.starts.now i.items.now i.block i.z i.y c.if-self.true in
    (e, e)

pub overflow_mul-c : goal.overflow_mul-c
overflow_mul-c c =
    omega (arith, c.self.invariant.held.started _ _ c.self.invariant.next c.if-self.false)

pub overflow_add-c : goal.overflow_add-c
overflow_add-c c =
    omega (arith, c.self.invariant.held.started _ _ c.self.invariant.next c.if-self.false)

pub overflow_mul-c-2 : goal.overflow_mul-c-2
overflow_mul-c-2 c =
    omega (arith, c.self.invariant.held.started _ _ c.self.invariant.next c.if-self.false)

pub returns-clause-steps : goal.returns-clause-steps
returns-clause-steps c =
    let i = c.self.inside in
    elim c.if-self-2.branch [
      | then-self-2 w ↦ rw w.self-inside-is (sym c.self.view_is ∙ layer_next i.starts.now i.items.now i.block i.z i.y c.if-self.false c.self.invariant c.wide-from.ensures c.wide-to.ensures (omega (arith, w.if-self-2)))
      | else-self-2 w ↦ rw w.self-inside-is (sym c.self.view_is ∙ row_next i.starts.now i.items.now i.block i.z i.y c.if-self.false c.self.invariant c.wide-from.ensures c.wide-to.ensures)
    ]

pub returns-clause-goes : goal.returns-clause-goes
returns-clause-goes c =
    let shorter = ap length (returns-clause-steps c) in search rules
