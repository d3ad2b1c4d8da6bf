-- `surfel::Weighed::with` meets its contract. Both comparisons have to hold for the surfel to count. Assumes nothing.
use Rattle.surfel.proofs.Compared.{counted, turned, beyond}
use Rattle.surfel.proofs.Weighed.with.Goals as goal

pub returns-then-align : goal.returns-then-align
returns-then-align c =
    counted _ _ _ c.minus.ensures c.length_squared-d2.ensures c.dot-align.ensures c.if-d2-probe.true c.if-align.true
    (rw (c.plus.ensures, c.scaled.ensures, c.weight-w.ensures))

pub returns-else-align : goal.returns-else-align
returns-else-align c =
    turned _ _ _ c.minus.ensures c.length_squared-d2.ensures c.dot-align.ensures c.if-d2-probe.true c.if-align.false

pub returns-else-d2-probe : goal.returns-else-d2-probe
returns-else-d2-probe c =
    beyond _ _ _ c.minus.ensures c.length_squared-d2.ensures c.dot-align.ensures c.if-d2-probe.false
