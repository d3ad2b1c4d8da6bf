-- `interflect::rows::interflect_build` meets its contract. It tells what the entry answers, and each slice keeps its length. Assumes nothing.
use Rattle.outs.specs.Rows.{build_left}
use Rattle.interflect.proofs.Told.{told_with_three}
use Rattle.interflect.proofs.rows.interflect_build.Goals as goal

pub returns : goal.returns
returns c =
    let e = rw (c.vec.ensures, c.vec-2.ensures) at c.build-answer.ensures in
    record { link_weight_after = told_with_three build_left c.tell_built.ensures e.link_weight_after; kept_from = e.kept_from; kept_from_2 = e.kept_from_2 }
