-- `float::cells::cell_count` meets its contract. Below 512 the cast is a float exactly, so comparing it with x shows whether a fraction was dropped. Assumes nothing.
use Rattle.std.proofs.Common.{arith, le→leb}
use lib.Ieee.{in_float}
use Rattle.float.specs.Cells.{cell_count}
use Rattle.float.proofs.Casts.{truncate-le, ceiling_next, ceiling_same}
use Rattle.float.proofs.cells.cell_count.Goals as goal

pub int_to_float-t : goal.int_to_float-t
unfolding in_float
int_to_float-t c =
    le→leb c.truncate-t.result 16777216 (omega arith)

pub returns-then-t-ge512 : goal.returns-then-t-ge512
unfolding cell_count
returns-then-t-ge512 c =
    omega (arith, c.truncate-t.ensures, truncate-le c.args.x)

pub returns-then-t-x : goal.returns-then-t-x
unfolding cell_count
returns-then-t-x c =
    omega (arith, ceiling_next c.args.x c.truncate-t.result c.truncate-t.ensures (omega arith) c.if-t-x.true)

pub returns-then-t-eq0 : goal.returns-then-t-eq0
unfolding cell_count
returns-then-t-eq0 c =
    omega (arith, ceiling_same c.args.x c.truncate-t.result c.truncate-t.ensures (omega arith) c.if-t-x.false)

pub returns-else-t-eq0 : goal.returns-else-t-eq0
unfolding cell_count
returns-else-t-eq0 c =
    omega (arith, ceiling_same c.args.x c.truncate-t.result c.truncate-t.ensures (omega arith) c.if-t-x.false)
