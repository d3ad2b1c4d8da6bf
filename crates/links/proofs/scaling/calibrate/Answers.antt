-- `links::scaling::calibrate` meets its contract. The sum decides whether the weights are scaled. Assumes nothing.
use Rattle.links.specs.Scaling.{scale_to, calibrated, calibrated_sum}
use Rattle.links.proofs.scaling.calibrate.Goals as goal

pub returns-then-sum : goal.returns-then-sum
unfolding scale_to calibrated calibrated_sum
returns-then-sum c =
    let t = c.if-sum.true in
    record { value = rw (t, c.min-scale.ensures); row_after = rw (t, c.rescale.ensures, c.min-scale.ensures) }

pub returns-else-sum : goal.returns-else-sum
unfolding calibrated calibrated_sum
returns-else-sum c = record { value = rw c.if-sum.false; row_after = rw c.if-sum.false }
