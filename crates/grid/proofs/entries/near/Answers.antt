-- `grid::entries::near` meets its contract. Each way out is a case of the definition; the block's numbers are those visited. Assumes nothing.
use mathlib.Core.Path.{sym, ◌∙◌}
use Rattle.std.proofs.lemmas.Result.{err_from_is_err_and}
use Rattle.grid.proofs.Answered.{near_refused, near_short, near_done, near_walked_at}
use Rattle.grid.proofs.Handed.{handed, turned_away}
use Rattle.grid.proofs.Walked.{room_short, room_done}
use Rattle.grid.proofs.entries.near.Goals as goal

pub returns-in_err-check : goal.returns-in_err-check
returns-in_err-check c =
    let a = c.args in
    let e = rw (c.point.ensures, c.at_most.ensures) at c.check.ensures in
    let p = err_from_is_err_and c.from_residual.result c.from_residual.ensures.1 in
    rw (p.1, p.2) (near_refused a.grid.now a.p a.reach a.list.now (turned_away a.grid.now _ (sym e ∙ c.in_err-check.was)))

pub count_block-count-requires-clause-rows_held : goal.count_block-count-requires-clause-rows_held
count_block-count-requires-clause-rows_held c =
    let a = c.args in
    let e = rw (c.point.ensures, c.at_most.ensures) at c.check.ensures in
    let z = handed a.grid.now _ (sym e ∙ c.in_ok-check.was) in
    rw c.block_near-block.ensures (near_walked_at _ a.grid.now a.p a.reach a.list.now c.grid.view_is z.0).0

pub count_block-count-requires-clause-small : goal.count_block-count-requires-clause-small
count_block-count-requires-clause-small c =
    let a = c.args in
    let e = rw (c.point.ensures, c.at_most.ensures) at c.check.ensures in
    let z = handed a.grid.now _ (sym e ∙ c.in_ok-check.was) in
    rw c.block_near-block.ensures (near_walked_at _ a.grid.now a.p a.reach a.list.now c.grid.view_is z.0).1

pub returns-in_err-require : goal.returns-in_err-require
returns-in_err-require c =
    let a = c.args in
    let e = rw (c.point.ensures, c.at_most.ensures) at c.check.ensures in
    let z = handed a.grid.now _ (sym e ∙ c.in_ok-check.was) in
    let w = near_walked_at _ a.grid.now a.p a.reach a.list.now c.grid.view_is z.0 in
    let count = rw (c.block_near-block.ensures, ← w.2, c.grid.view_is) at c.count_block-count.ensures in
    let s = room_short _ _ (sym c.require.ensures ∙ c.in_err-require.was) in
    let p = err_from_is_err_and c.from_residual-in_err-require.result c.from_residual-in_err-require.ensures.1 in
    rw (p.1, p.2, s.0) (near_short a.grid.now a.p a.reach a.list.now z.0 (rw count at s.1))

pub list_block-requires-clause-rows_held : goal.list_block-requires-clause-rows_held
list_block-requires-clause-rows_held c =
    let a = c.args in
    let e = rw (c.point.ensures, c.at_most.ensures) at c.check.ensures in
    let z = handed a.grid.now _ (sym e ∙ c.in_ok-check.was) in
    rw c.block_near-block.ensures (near_walked_at _ a.grid.now a.p a.reach a.list.now c.grid.view_is z.0).0

pub returns : goal.returns
returns c =
    let a = c.args in
    let e = rw (c.point.ensures, c.at_most.ensures) at c.check.ensures in
    let z = handed a.grid.now _ (sym e ∙ c.in_ok-check.was) in
    let w = near_walked_at _ a.grid.now a.p a.reach a.list.now c.grid.view_is z.0 in
    let count = rw (c.block_near-block.ensures, ← w.2, c.grid.view_is) at c.count_block-count.ensures in
    let stored = rw (c.block_near-block.ensures, ← w.2, c.grid.view_is) at c.list_block.ensures in
    let s = room_done _ _ (sym c.require.ensures ∙ c.in_ok-require.was) in
    rw (count, stored) (near_done a.grid.now a.p a.reach a.list.now z.0 (rw count at s))
