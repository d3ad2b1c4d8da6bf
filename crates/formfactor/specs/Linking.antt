-- A row of links: document 01, 'The rows' (links in a row strictly ascend; if the row sum exceeds 1e-5 the row is scaled by min(target / sum, 8)), in the order of the Rust's float steps:
-- the raw links, then the target, then the scaling. Definitions only.
use Rattle.std.specs.Prelude.{List, [], ◌∷◌, ◌++◌, ℕ, ◌+◌, Float, Option, Some, None}
use Rattle.std.specs.Float.{binary32}
use Rattle.std.specs.Float.Ieee.{of_bits}
use Rattle.float.specs.Arithmetic.{◌*f◌, 1f}
use Rattle.float.specs.Order.{lesser}
use Rattle.vector.specs.Fold.{fold}
use Rattle.tables.specs.Tables.{Scene}
use Rattle.scene.specs.declared.Closure.{Closure}
use Rattle.scene.specs.Opening.{hemisphere_closure}
use Rattle.clusters.specs.declared.Cluster.{Cluster}
use Rattle.links.specs.declared.Receiver.{Receiver}
use Rattle.links.specs.declared.Pair.{Pair}
use Rattle.links.specs.Pairs.{pair_of}
use Rattle.links.specs.Scaling.{row_sum, target_of, calibrated, calibrated_sum}

-- raw links: their clusters, their weights, and the evaluations that it took to find them
pub record Links : Type 0 where
  pub cluster : List ℕ
  pub weight : List Float
  pub evals : ℕ

abbrev pub no_links : Links
no_links = record { cluster = []; weight = []; evals = 0 }

-- what a pair with cluster c adds to the clusters and to the weights: nothing where it is not linked
abbrev pub cluster_if : Option Float → ℕ → List ℕ
cluster_if None c = []
cluster_if (Some w) c = c ∷ []

abbrev pub weight_if : Option Float → List Float
weight_if None = []
weight_if (Some w) = w ∷ []

-- the links with one cluster more, the pair of the surfel and cluster c
unfoldable pub linked_to : Links → ℕ → Pair → Links
linked_to l c pair =
    record {
      cluster = l.cluster ++ cluster_if pair.weight c;
      weight = l.weight ++ weight_if pair.weight;
      evals = l.evals + pair.evals;
    }

-- the raw links of a surfel to the first m clusters
unfoldable pub raw_links : Scene → Float → Receiver → (ℕ → Cluster) → ℕ → Links
raw_links s diag a cluster m = fold (λ l c. linked_to l c (pair_of s diag a (cluster c))) no_links (λ c. c) m

-- the openness of the hemisphere above a surfel, up to two diagonals of the bounds
unfoldable pub openness : Scene → Float → Receiver → Closure
openness s diag a = hemisphere_closure s a.p a.n (diag *f of_bits binary32 0x4000_0000)

-- a row: the clusters and the weights of its links, its sum, 1 at most, and the evaluations
pub record Row : Type 0 where
  pub cluster : List ℕ
  pub weight : List Float
  pub sum : Float
  pub evals : ℕ

-- the row of a surfel, with nc clusters
unfoldable pub row_of : Scene → Float → Receiver → (ℕ → Cluster) → ℕ → Row
row_of s diag a cluster nc =
    let raw = raw_links s diag a cluster nc in
    let above = openness s diag a in
    let target = target_of above.sky in
    let sum = row_sum raw.weight in
    record {
      cluster = raw.cluster;
      weight = calibrated target sum raw.weight;
      sum = lesser (calibrated_sum target sum) 1f;
      evals = raw.evals + above.evals;
    }
