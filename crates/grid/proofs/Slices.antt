-- Parts of a list that follow one another, and how long the rows of a block are. Assumes nothing.
use mathlib.Core.List.{List, ◌++◌}
use mathlib.Core.Path.{◌≡◌, sym, ap, ◌∙◌}
use Prim.Native.Nat.{ℕ, zero, suc, ◌+◌, ◌-◌, ◌≤◌, ◌<◌}
use native.Mathlib.Nat.{add-zero, add-suc}
use native.Mathlib.Numerals.{add-one}
use native.Mathlib.Omega.{arith}
use lib.ListN.{length, take, drop}
use lib.Seq.{slice, slice_empty, length-slice, take-add, drop-append-le, drop_at, length-take-le}
use Rattle.vector.specs.Flat.{rows}
use Rattle.accept.proofs.Starts.{not_falling}
use Rattle.grid.specs.declared.Block.{Block}
use Rattle.grid.specs.Rows.{row_from, row_to, row_listed, RowsHeld}

-- a slice, and the one that follows it
pub slice_join : {A : Type 0} (f t u : ℕ) (l : List A) → f ≤ t → t ≤ u → u ≤ length l → slice f t l ++ slice t u l ≡ slice f u l
slice_join {A} f t u l h k m =
    let x = take (u - t) (drop t l) in
    let w : u ≡ t + (u - t) = omega arith in
    let e : take u l ≡ take t l ++ x = ap (λ (j : ℕ). take j l) w ∙ take-add t (u - t) l in
    let n : length (take t l) ≡ t = length-take-le t l (omega arith) in
    let a : slice t u l ≡ x = ap (drop t) e ∙ drop_at (take t l) x t n in
    let b : slice f u l ≡ drop f (take t l) ++ x = ap (drop f) e ∙ drop-append-le f (take t l) x (omega (arith, n)) in
    ap (λ (y : List A). slice f t l ++ y) a ∙ sym b

-- slices that follow one another from place to place, m of them
pub rows_join : (s : ℕ → ℕ) (l : List ℕ) (a m : ℕ) → ((i : ℕ) → i < m → s (a + i) ≤ s (a + i + 1)) → s (a + m) ≤ length l
    → rows (λ i. slice (s (a + i)) (s (a + i + 1)) l) m ≡ slice (s a) (s (a + m)) l
unfolding rows
rows_join s l a zero h k = rw (add-zero a) (sym (slice_empty (s a) l))
rows_join s l a (suc m) h k =
    let e : a + suc m ≡ a + m + 1 = omega arith in
    let k = rw e at k in
    let up = h m (omega arith) in
    let z : a + 0 ≡ a = omega arith in
    let low = rw z at (not_falling (λ i. s (a + i)) m (λ i q. rw (add-one i, add-suc) (rw add-one at (h i (omega arith)))) 0 (omega arith)) in
    rw (e, rows_join s l a m (λ i q. h i (omega arith)) (omega arith)) (slice_join (s a) (s (a + m)) (s (a + m + 1)) l low up k)

-- how many numbers a row lists
pub row-length : (starts items : List ℕ) (n : ℕ) (b : Block) → RowsHeld starts items n b → (y z : ℕ) → y < b.rows → z < b.layers
    → length (row_listed starts items b z y) ≡ row_to starts b y z - row_from starts b y z
row-length starts items n b w y z h k = length-slice (row_from starts b y z) (row_to starts b y z) items (omega (arith, w.ends y z h k, w.held))
