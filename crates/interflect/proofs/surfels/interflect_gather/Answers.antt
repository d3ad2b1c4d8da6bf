-- `interflect::surfels::interflect_gather` meets its contract. It tells what the entry answers. Assumes nothing.
use Rattle.outs.specs.Surfels.{gather_left}
use Rattle.interflect.proofs.Told.{told}
use Rattle.interflect.proofs.surfels.interflect_gather.Goals as goal

pub returns : goal.returns
returns c =
    told gather_left c.tell_reading.ensures (rw (c.vec.ensures, c.vec-2.ensures, c.vec-at.ensures, c.vec-normal.ensures) at c.gather-answer.ensures)
