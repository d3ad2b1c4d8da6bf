-- `interflect::surfels::interflect_near` meets its contract. It tells what the entry answers, and each slice keeps its length. Assumes nothing.
use Rattle.outs.specs.Outs.{left}
use Rattle.interflect.proofs.Told.{told_with}
use Rattle.interflect.proofs.surfels.interflect_near.Goals as goal

pub returns : goal.returns
returns c =
    told_with left c.tell_count.ensures (rw (c.vec.ensures, c.vec-2.ensures, c.vec-p.ensures) at c.near-answer.ensures)
