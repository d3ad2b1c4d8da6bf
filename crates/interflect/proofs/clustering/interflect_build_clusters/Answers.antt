-- `interflect::clustering::interflect_build_clusters` meets its contract. It tells what the entry answers, and each slice keeps its length. Assumes nothing.
use Rattle.outs.specs.Outs.{left}
use Rattle.interflect.proofs.Told.{told_with}
use Rattle.interflect.proofs.clustering.interflect_build_clusters.Goals as goal

pub returns : goal.returns
returns c =
    let e = rw (c.vec.ensures, c.vec-2.ensures) at c.build_clusters-answer.ensures in
    record { members_value = told_with left c.tell_clustered.ensures e.columns_value; kept_from = e.kept_from; kept_from_2 = e.kept_from_2 }
