-- `interflect::scenes::interflect_normal` meets its contract. It tells what the entry answers. Assumes nothing.
use Rattle.outs.specs.Outs.{left}
use Rattle.interflect.proofs.Told.{told}
use Rattle.interflect.proofs.scenes.interflect_normal.Goals as goal

pub returns : goal.returns
returns c =
    told left c.tell_normal.ensures (rw c.vec.ensures at c.normal-answer.ensures)
