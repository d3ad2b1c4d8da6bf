-- `replay::table::shown` meets its contract. Assumes nothing.
use Rattle.std.proofs.Common.{◌≡◌, map, take}
use Rattle.replay.proofs.table.shown.Given as goal

abbrev pub invariant-loop-x : goal.invariant-loop-x
invariant-loop-x g l = l.words ≡ map g.W.Word.bits (take l.x-index l.x-items)
