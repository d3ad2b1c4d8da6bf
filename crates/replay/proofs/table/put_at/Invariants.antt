-- `replay::table::put_at` meets its contract. What is stored so far, with the stores that are left, is what all of them make. Assumes nothing.
use Rattle.std.proofs.Common.{◌≡◌, map, drop, ◌+◌}
use Rattle.std.proofs.lemmas.List.Edits.{sets}
use Rattle.replay.proofs.table.put_at.Given as goal

abbrev pub invariant-loop-k : goal.invariant-loop-k
invariant-loop-k g l = sets l.table (l.at + l.k) (map g.W.Word.read (drop l.k l.words)) ≡ sets l.initial.table l.at (map g.W.Word.read l.words)
