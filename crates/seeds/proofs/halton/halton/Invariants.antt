-- `seeds::halton::halton` meets its contract. With the digits left, the sum is the result, and each turn takes the lowest of them. Assumes nothing.
use Rattle.seeds.proofs.Digits.{Left}
use Rattle.seeds.proofs.halton.halton.Given as goal

abbrev pub invariant-loop-n : goal.invariant-loop-n
invariant-loop-n l = Left l.base l.i l.n l.f l.r

abbrev pub decreases-loop-n : goal.decreases-loop-n
decreases-loop-n l = l.n
