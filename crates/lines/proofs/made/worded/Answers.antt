-- `lines::made::worded` meets its contract. The pieces fit into a line, one after the other. Assumes nothing.
use native.Mathlib.Omega.{arith}
use Rattle.lines.proofs.Joined.{line-lengths}
use Rattle.lines.proofs.made.worded.Goals as goal

pub with-requires-2 : goal.with-requires-2
with-requires-2 c = omega (arith, line-lengths, c.requires)

pub with-requires-3 : goal.with-requires-3
with-requires-3 c = omega (arith, line-lengths, c.requires)

pub with_float-requires : goal.with_float-requires
with_float-requires c = omega (arith, line-lengths, c.requires)

pub with-requires-4 : goal.with-requires-4
with-requires-4 c = omega (arith, line-lengths, c.requires)

pub with_float-requires-2 : goal.with_float-requires-2
with_float-requires-2 c = omega (arith, line-lengths, c.requires)

pub with-requires-5 : goal.with-requires-5
with-requires-5 c = omega (arith, line-lengths, c.requires)

pub with_float-requires-3 : goal.with_float-requires-3
with_float-requires-3 c = omega (arith, line-lengths, c.requires)

pub with-requires-6 : goal.with-requires-6
with-requires-6 c = omega (arith, line-lengths, c.requires)
