-- `lines::made::bounces` meets its contract. The pieces fit into a line, one after the other, whichever the last word is. Assumes nothing.
use native.Mathlib.Omega.{arith}
use Rattle.lines.proofs.Joined.{line-lengths}
use Rattle.lines.proofs.made.bounces.Goals as goal

pub with-requires-2 : goal.with-requires-2
with-requires-2 c = omega (arith, line-lengths)

pub with_float-line-requires : goal.with_float-line-requires
with_float-line-requires c = omega (arith, line-lengths)

pub with-requires-then-settled : goal.with-requires-then-settled
with-requires-then-settled c = omega (arith, line-lengths)

pub with-requires-then-settled-2 : goal.with-requires-then-settled-2
with-requires-then-settled-2 c = omega (arith, line-lengths)

pub with-requires-else-settled : goal.with-requires-else-settled
with-requires-else-settled c = omega (arith, line-lengths)

pub with-requires-else-settled-2 : goal.with-requires-else-settled-2
with-requires-else-settled-2 c = omega (arith, line-lengths)
