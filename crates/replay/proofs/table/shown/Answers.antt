-- `replay::table::shown` meets its contract. Assumes nothing.
use Rattle.std.proofs.Common.{◌≤◌, length, length-take, arith}
use Rattle.replay.proofs.Tables.{shown_next}
use Rattle.replay.proofs.table.shown.Goals as goal

pub loop-x-preserved : goal.loop-x-preserved
loop-x-preserved g c =
    let items = c.lent-x-items.result.now in
    let few : length items ≤ 16 = rw (c.lent-x-items.ensures, length-take) (omega arith) in
    rw (c.with-words.ensures, c.word.ensures, c.loop-x.invariant)
    (shown_next g.W.Word.bits items c.loop-x.x-index c.x-item.result c.loop-x-test.true few c.x-item.is)
