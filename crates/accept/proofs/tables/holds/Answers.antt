-- `accept::tables::holds` meets its contract. Where an entry has places, n entries take at most len places when n is at most len / each. Assumes nothing.
use native.Mathlib.Omega.{arith}
use Rattle.accept.proofs.Bounded.{holds_none, holds_some}
use Rattle.accept.proofs.tables.holds.Goals as goal

pub returns-then-each-eq0 : goal.returns-then-each-eq0
returns-then-each-eq0 c =
    rw c.if-each-eq0.true (holds_none c.args.len c.args.n)

pub returns-else-each-eq0 : goal.returns-else-each-eq0
returns-else-each-eq0 c =
    holds_some _ _ _ (let h = c.if-each-eq0.false in omega arith)
