-- `clusters::aggregating::aggregate` meets its contract. The loop has written the first k clusters. Assumes nothing.
use Rattle.std.proofs.Common.{◌≡◌}
use Rattle.vector.specs.Flat.{written, filled}
use Rattle.clusters.specs.Made.{cluster_of}
use Rattle.clusters.proofs.aggregating.aggregate.Given as goal

abbrev pub invariant-loop-k : goal.invariant-loop-k
invariant-loop-k l =
    record {
      centres : l.p ≡ written (λ j. (cluster_of l.d.surfels l.groups j).p) l.k l.initial.p;
      normals : l.n ≡ written (λ j. (cluster_of l.d.surfels l.groups j).n) l.k l.initial.n;
      areas : l.area ≡ filled (λ j. (cluster_of l.d.surfels l.groups j).area) l.k l.initial.area;
      radii : l.radius ≡ filled (λ j. (cluster_of l.d.surfels l.groups j).radius) l.k l.initial.radius;
    }
