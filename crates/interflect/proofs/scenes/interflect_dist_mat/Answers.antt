-- `interflect::scenes::interflect_dist_mat` meets its contract. It tells what the entry answers. Assumes nothing.
use Rattle.outs.specs.Outs.{left}
use Rattle.interflect.proofs.Told.{told}
use Rattle.interflect.proofs.scenes.interflect_dist_mat.Goals as goal

pub returns : goal.returns
returns c =
    told left c.tell_nearest.ensures (rw c.vec.ensures at c.dist_mat-answer.ensures)
