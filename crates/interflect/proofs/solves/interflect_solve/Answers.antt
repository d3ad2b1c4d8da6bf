-- `interflect::solves::interflect_solve` meets its contract. It tells what the entry answers, and each slice keeps its length. Assumes nothing.
use Rattle.outs.specs.Outs.{left}
use Rattle.interflect.proofs.Told.{told_with_two}
use Rattle.interflect.proofs.solves.interflect_solve.Goals as goal

pub returns : goal.returns
returns c =
    told_with_two left c.tell_solved.ensures c.solve-answer.ensures
