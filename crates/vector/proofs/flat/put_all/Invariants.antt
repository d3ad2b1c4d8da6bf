-- `vector::flat::put_all` meets its contract. What is stored so far, with the stores that are left, is what all of them make. Assumes nothing.
use Rattle.std.proofs.Common.{◌≡◌, drop, ◌+◌}
use Rattle.std.proofs.lemmas.List.Edits.{sets}
use Rattle.vector.proofs.flat.put_all.Given as goal

abbrev pub invariant-loop-k : goal.invariant-loop-k
invariant-loop-k g l = sets l.s (l.at + l.k) (drop l.k l.items) ≡ sets l.initial.s l.at l.items
