-- `interflect::scenes::interflect_soft_shadow` meets its contract. It tells what the entry answers. Assumes nothing.
use Rattle.outs.specs.Outs.{left}
use Rattle.interflect.proofs.Told.{told}
use Rattle.interflect.proofs.scenes.interflect_soft_shadow.Goals as goal

pub returns : goal.returns
returns c =
    told left c.tell_shadow.ensures (rw (c.vec.ensures, c.vec-2.ensures) at c.soft_shadow-answer.ensures)
