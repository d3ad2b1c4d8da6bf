-- `interflect::surfels::interflect_grid_build` meets its contract. It tells what the entry answers, and each slice keeps its length. Assumes nothing.
use Rattle.outs.specs.Outs.{left}
use Rattle.interflect.proofs.Told.{told_with_two}
use Rattle.interflect.proofs.surfels.interflect_grid_build.Goals as goal

pub returns : goal.returns
returns c =
    told_with_two left c.tell_dims.ensures (rw (c.vec.ensures, c.vec-2.ensures) at c.grid_build-answer.ensures)
