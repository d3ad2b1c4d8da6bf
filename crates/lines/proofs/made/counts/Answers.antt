-- `lines::made::counts` meets its contract. The pieces fit into a line, one after the other. Assumes nothing.
use native.Mathlib.Omega.{arith}
use Rattle.lines.proofs.Joined.{line-lengths}
use Rattle.lines.proofs.made.counts.Goals as goal

pub with-requires-2 : goal.with-requires-2
with-requires-2 c = omega (arith, line-lengths)

pub with_decimal-requires-2 : goal.with_decimal-requires-2
with_decimal-requires-2 c = omega (arith, line-lengths)

pub with-requires-3 : goal.with-requires-3
with-requires-3 c = omega (arith, line-lengths)

pub with_decimal-requires-3 : goal.with_decimal-requires-3
with_decimal-requires-3 c = omega (arith, line-lengths)

pub with-requires-4 : goal.with-requires-4
with-requires-4 c = omega (arith, line-lengths)
