-- What the functions beneath the entries answer and ask of each other. No public contract rests on these. Definitions only.
use Rattle.std.specs.Prelude.{cond, List, ◌≡◌, ℕ, ◌+◌, ◌*◌, ◌≤◌, ◌<◌, eqb, Float, length, Option, Some, None}
use Rattle.std.proofs.lemmas.List.Edits.{sets}
use Rattle.float.specs.Arithmetic.{◌+f◌}
use Rattle.vector.specs.Flat.{MutSlice}
use Rattle.accept.specs.Limits.{max_surfels, max_clusters, max_links}
use Rattle.links.specs.declared.Pair.{Pair}
use Rattle.formfactor.specs.declared.Built.{Built}
use Rattle.formfactor.specs.declared.Interior.{Interior}
use Rattle.formfactor.specs.declared.RowMade.{RowMade}
use Rattle.formfactor.specs.declared.RowsMade.{RowsMade}
use Rattle.formfactor.specs.Lent.{Emitters, Setting}
use Rattle.links.specs.Scaling.{row_sum}
use Rattle.formfactor.specs.Linking.{Links, Row}
use Rattle.formfactor.specs.Building.{start_of, interior, mean_of, evals_of}

-- the columns of the clusters are there
pub record EmittersHeld (e : Emitters) : Type 0 where
  pub few : e.nc ≤ max_clusters
  pub places : 3 * e.nc ≤ length e.p
  pub normals : 3 * e.nc ≤ length e.n
  pub areas : e.nc ≤ length e.area
  pub radii : e.nc ≤ length e.radius

-- the columns of n surfels are there
pub record SurfelsHeld (n : ℕ) (p normals : List Float) : Type 0 where
  pub few : n ≤ max_surfels
  pub places : 3 * n ≤ length p
  pub directions : 3 * n ≤ length normals

-- both
pub record Held (t : Setting) : Type 0 where
  pub surfels : SurfelsHeld t.n t.p t.normals
  pub emitters : EmittersHeld t.emitters

-- scratch for a row
pub record ScratchHeld (nc : ℕ) (link : List ℕ) (weight : List Float) : Type 0 where
  pub links : nc ≤ length link
  pub weights : nc ≤ length weight

-- room in the scratch for one link more, of the pairs with the first c clusters
pub record Open (m : RowMade) (c : ℕ) (link : List ℕ) (weight : List Float) : Type 0 where
  pub few : c < max_clusters
  pub before : m.links ≤ c
  pub evals_few : m.evals ≤ 96 * c
  pub links : c < length link
  pub weights : c < length weight

-- what is told of a row with one pair more
abbrev pub weight_made : RowMade → Option Float → ℕ → RowMade
weight_made m None evals = record { links = m.links; sum = m.sum; evals = evals }
weight_made m (Some w) evals = record { links = m.links + 1; sum = m.sum +f w; evals = evals }

unfoldable pub pair_made : RowMade → Pair → RowMade
pair_made m pair = weight_made m pair.weight (m.evals + pair.evals)

-- what is told of raw links, of a row, and of the first k rows
unfoldable pub links_made : Links → RowMade
links_made l = record { links = length l.cluster; sum = row_sum l.weight; evals = l.evals }

unfoldable pub row_made : Row → RowMade
row_made row = record { links = length row.cluster; sum = row.sum; evals = row.evals }

unfoldable pub rows_made : Setting → ℕ → RowsMade
rows_made t k = record { links = start_of t k; interior = interior t k; evals = evals_of t k }

-- what is told of links that were made, and the scratch in which they stand from place 0 on; the rest of it is as it was
pub record LinksStanding (l : Links) (r : RowMade) (link : MutSlice ℕ) (weight : MutSlice Float) : Type 0 where
  pub told : r ≡ links_made l
  pub clusters : link.exit.now ≡ sets link.entry.now 0 l.cluster
  pub weights : weight.exit.now ≡ sets weight.entry.now 0 l.weight

pub record RowStanding (row : Row) (r : RowMade) (link : MutSlice ℕ) (weight : MutSlice Float) : Type 0 where
  pub told : r ≡ row_made row
  pub clusters : link.exit.now ≡ sets link.entry.now 0 row.cluster
  pub weights : weight.exit.now ≡ sets weight.entry.now 0 row.weight

-- after i rows, one row more: nothing overflows. A row takes at most 96 × 65,536 + 2,112 evaluations
abbrev pub most_evals : ℕ
most_evals = 6293568

pub record Small (m : RowsMade) (row : RowMade) (i : ℕ) : Type 0 where
  pub rows_few : i < max_surfels
  pub links_few : m.links + row.links ≤ max_links
  pub interior_few : m.interior.rows ≤ i
  pub evals_few : m.evals ≤ most_evals * i
  pub row_evals_few : row.evals ≤ most_evals

-- what is told with one row more
unfoldable pub with_links : Interior → RowMade → Interior
with_links m row = cond (eqb row.links 0) m (record { rows = m.rows + 1; sum = m.sum +f row.sum })

unfoldable pub with_row : RowsMade → RowMade → RowsMade
with_row m row = record { links = m.links + row.links; interior = with_links m.interior row; evals = m.evals + row.evals }

-- what is answered of them
unfoldable pub built_of : RowsMade → Built
built_of m = record { links = m.links; mean_row_sum = mean_of m.interior; evals = m.evals }
