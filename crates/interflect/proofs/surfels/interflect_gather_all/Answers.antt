-- `interflect::surfels::interflect_gather_all` meets its contract. It tells what the entry answers, and each slice keeps its length. Assumes nothing.
use Rattle.interflect.proofs.surfels.interflect_gather_all.Goals as goal

pub returns : goal.returns
returns c =
    rw (c.refusal_number.ensures, ← (rw (c.vec.ensures, c.vec-2.ensures) at c.gather_all-answer.ensures))
