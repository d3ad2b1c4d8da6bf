-- `interflect::placing::interflect_generate` meets its contract. It tells what the entry answers, and each slice keeps its length. Assumes nothing.
use Rattle.outs.specs.Outs.{left}
use Rattle.interflect.proofs.Told.{told_with}
use Rattle.interflect.proofs.placing.interflect_generate.Goals as goal

pub returns : goal.returns
returns c =
    let e = rw (c.vec.ensures, c.vec-2.ensures) at c.generate-answer.ensures in
    record { rad_after = told_with left c.tell_count.ensures e.rad_value; kept_from = e.kept_from; kept_from_2 = e.kept_from_2 }
