-- `lines::made::refused` meets its contract. The pieces fit into a line, one after the other. Assumes nothing.
use native.Mathlib.Omega.{arith}
use Rattle.lines.proofs.Joined.{line-lengths}
use Rattle.lines.proofs.made.refused.Goals as goal

pub with-requires-2 : goal.with-requires-2
with-requires-2 c = omega (arith, line-lengths)
