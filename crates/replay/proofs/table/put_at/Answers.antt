-- `replay::table::put_at` meets its contract. What is stored so far, with the stores that are left, is what all of them make. Assumes nothing.
use Rattle.std.proofs.Common.{◌≡◌, ◌∙◌, sym, arith, drop, map, ◌+◌, take}
use Rattle.std.proofs.lemmas.Grind.{common_steps}
use Rattle.replay.proofs.Tables.{sets_none, sets_next}
use Rattle.replay.proofs.table.put_at.Goals as goal

pub loop-k-preserved : goal.loop-k-preserved
loop-k-preserved g c =
    rw (c.of_word.ensures, c.lent-word-items.ensures)
    (sets_next g.W.Word.read c.loop-k.table c.args.at c.loop-k.k c.saturating_sub-places.result c.args.words.now
    (rw c.lent-word-items.ensures at c.loop-k-test.true)
    ∙ c.loop-k.invariant)

pub returns : goal.returns
returns g c =
    let items : c.lent-word-items.result.now ≡ take c.saturating_sub-places.result c.args.words.now = c.lent-word-items.ensures in
    let past = rw items at c.loop-k-test.false in
    sym (sets_none c.loop-k.table (c.args.at + c.loop-k.k) (map g.W.Word.read (drop c.loop-k.k c.args.words.now)) (grind (arith, common_steps))) ∙ c.loop-k.invariant
