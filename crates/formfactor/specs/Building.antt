-- The rows of all surfels: document 01, 'The rows' (`mean_row_sum`, the evaluation count) and 'Refused calls' (8: the first row that doesn't fit). Definitions only.
use Rattle.std.specs.Prelude.{Bool, cond, ◌&&◌, List, ℕ, zero, suc, ◌+◌, min, eqb, leb, Float, length}
use Rattle.float.specs.Arithmetic.{◌+f◌, ◌/f◌, 0f}
use Rattle.vector.specs.Flat.{rows}
use Rattle.vector.specs.Fold.{fold}
use Rattle.vector.specs.Halton.{of_whole}
use Rattle.accept.specs.Limits.{max_links}
use Rattle.order.specs.Order.{sums}
use Rattle.formfactor.specs.declared.Interior.{Interior}
use Rattle.formfactor.specs.Lent.{Setting, receiver_at, cluster_at}
use Rattle.formfactor.specs.Linking.{Row, row_of}

-- the row of surfel i
unfoldable pub row_at : Setting → ℕ → Row
row_at t i = row_of t.scene t.diag (receiver_at t.p t.normals i) (cluster_at t.emitters) t.emitters.nc

-- the clusters and the weights of the first k rows, one row after the other
unfoldable pub clusters_of : Setting → ℕ → List ℕ
clusters_of t k = rows (λ i. (row_at t i).cluster) k

unfoldable pub weights_of : Setting → ℕ → List Float
weights_of t k = rows (λ i. (row_at t i).weight) k

-- where row k begins: how many links the rows before it have
abbrev pub start_of : Setting → ℕ → ℕ
start_of t k = length (clusters_of t k)

-- a row with links counts for the mean
unfoldable pub counted : Interior → Row → Interior
counted m row = cond (eqb (length row.cluster) 0) m (record { rows = m.rows + 1; sum = m.sum +f row.sum })

-- the first k rows so counted
unfoldable pub interior : Setting → ℕ → Interior
interior t k = fold counted (record { rows = 0; sum = 0f }) (row_at t) k

-- the mean of the row sums, over rows with links; 0 if there are none
unfoldable pub mean_of : Interior → Float
mean_of m = cond (eqb m.rows 0) 0f (m.sum /f of_whole m.rows)

-- the evaluations of the first k rows
unfoldable pub evals_of : Setting → ℕ → ℕ
evals_of t k = sums (λ i. (row_at t i).evals) k

-- how many of n tests pass before the first that fails
unfoldable pub passing : (ℕ → Bool) → ℕ → ℕ
passing test zero = 0
passing test (suc n) = cond (eqb (passing test n) n && test n) (suc n) (passing test n)

-- how many links two slices of these lengths take
abbrev pub capacity : ℕ → ℕ → ℕ
capacity clusters weights = min (min clusters weights) max_links

-- how many rows are written: those before the first whose links, after those of the rows before it, don't fit
unfoldable pub fitting : Setting → ℕ → ℕ
fitting t room = passing (λ i. leb (start_of t (suc i)) room) t.n
