-- The cells near a point as rows of cells that follow one another: they lie in the grid, and what is visited are their numbers. Assumes nothing.
use mathlib.Core.Bool.{true, and-eq-true_iff}
use Rattle.std.specs.Prelude.{Ok}
use Rattle.std.specs.List.{All, concat}
use mathlib.Core.List.{List}
use mathlib.Core.Path.{◌≡◌, sym, ap, ◌∙◌}
use Prim.Native.Nat.{ℕ, zero, suc, ◌+◌, ◌≤◌, ◌<◌}
use native.Mathlib.Nat.{add_assoc}
use native.Mathlib.Omega.{arith}
use lib.ListN.{length, take, length-take}
use lib.Seq.{slice, get_or-take}
use Rattle.std.proofs.lemmas.List.{get_or_default}
use Rattle.std.proofs.lemmas.List.Elements.{All-nil, All-append, All-drop}
use Rattle.float.specs.Arithmetic.{◌/f◌, 1f}
use Rattle.vector.specs.declared.Vec3.{Vec3}
use Rattle.vector.specs.Flat.{rows}
use Rattle.vector.proofs.Replaced.{rows_same}
use Rattle.accept.specs.Limits.{max_surfels}
use Rattle.accept.specs.Tables.{number_at, numbers_below, starts_monotone}
use Rattle.accept.proofs.Bounded.{numbers_below_at}
use Rattle.accept.proofs.Refused.{AllPassed, none_refused}
use Rattle.accept.proofs.Starts.{Monotone, not_falling, starts_monotone_lem}
use Rattle.grid.specs.declared.checks.Own.{Own}
use Rattle.grid.specs.declared.Cell.{Cell}
use Rattle.grid.specs.declared.Dims.{Dims}
use Rattle.grid.specs.Lent.{Grid, cells_of}
use Rattle.grid.specs.Visiting.{first_near, count_near, listed, visited}
use Rattle.grid.specs.Rows.{block_near, row_from, row_to, row_listed, block_listed, rows_near, RowsHeld, RowsLeft, Small}
use Rattle.grid.specs.Cells.{dims_of, cell_of}
use Rattle.grid.specs.Checks.{list_fits, tests, check}
use Rattle.grid.proofs.Numbered.{dims_bounded}
use Rattle.grid.proofs.Around.{number, number_along, near_end, inside, first_row, row_end}
use Rattle.grid.proofs.Slices.{rows_join}
use Rattle.grid.proofs.Walked.{rows_joined}

-- what holds in each row holds in all of them
all_rows : {A : Type 0} (P : A → Type 0) (f : ℕ → List A) (n : ℕ) → ((i : ℕ) → i < n → All P (f i)) → All P (rows f n)
unfolding rows
all_rows P f zero h = All-nil P
all_rows P f (suc n) h = All-append P (rows f n) (f n) (all_rows P f n (λ i k. h i (omega arith))) (h n (omega arith))

-- a call that is not refused passed the tests
pub accepted : (g : Grid) (own : Own) → check g own ≡ Ok tt → AllPassed (tests g own)
unfolding check
accepted g own h = none_refused (tests g own) h

module _ (g : Grid) (p : Vec3) (reach : ℕ) (h : list_fits g ≡ true) where
  abbrev d : Dims
  d = dims_of g.lo g.hi g.side

  abbrev c : Cell
  c = cell_of p g.lo (1f /f g.side) d

  starts_fit : (cells_of g < length g.starts) × Monotone (number_at g.starts) (cells_of g) g.n
  unfolding list_fits
  starts_fit =
      starts_monotone_lem g.starts (cells_of g) g.n
      ((and-eq-true_iff (starts_monotone g.starts (cells_of g) g.n) (numbers_below g.items g.n g.n)).0 h).0

  -- the numbers that are listed are those of points
  pub items_fit : (g.n ≤ length g.items) × ((k : ℕ) → k < g.n → number_at g.items k < g.n)
  unfolding list_fits
  items_fit =
      numbers_below_at g.items g.n g.n
      ((and-eq-true_iff (starts_monotone g.starts (cells_of g) g.n) (numbers_below g.items g.n g.n)).0 h).1

  -- the first cell of row j of layer k, how many cells the row has, and where it ends
  abbrev first : ℕ → ℕ → ℕ
  first j k = number d (first_near c.x reach) (first_near c.y reach + j) (first_near c.z reach + k)

  abbrev wide : ℕ
  wide = count_near c.x reach d.x

  abbrev row_in : (j k : ℕ) → j < count_near c.y reach d.y → k < count_near c.z reach d.z → first j k + wide ≤ cells_of g
  row_in = row_end g.lo g.hi g.side p reach

  rising : (a m : ℕ) → a + m ≤ cells_of g → (i : ℕ) → i < m → number_at g.starts (a + i) ≤ number_at g.starts (a + i + 1)
  rising a m e i k = starts_fit.1.rising (a + i) (omega arith)

  -- so that starts do not fall from the first cell of a row to its end
  run : (a m : ℕ) → a + m ≤ cells_of g → number_at g.starts a ≤ number_at g.starts (a + m)
  run a m e =
      let z : a + 0 ≡ a = omega arith in
      rw z at (not_falling (λ i. number_at g.starts (a + i)) m (λ i k. rw add_assoc at (rising a m e i k)) 0 (omega arith))

  -- the cells of a row list what stands between its ends
  row_joined : (j k : ℕ) → j < count_near c.y reach d.y → k < count_near c.z reach d.z
      → rows (λ i. listed g.starts g.items (number d (first_near c.x reach + i) (first_near c.y reach + j) (first_near c.z reach + k))) wide
      ≡ slice (number_at g.starts (first j k)) (number_at g.starts (first j k + wide)) g.items
  row_joined j k a b =
      let e = row_in j k a b in
      rows_same _ _ wide (λ i _. ap (listed g.starts g.items) (number_along d (first_near c.x reach) (first_near c.y reach + j) (first_near c.z reach + k) i))
      ∙ rows_join (number_at g.starts) g.items (first j k) wide (rising (first j k) wide e)
      (omega (arith, starts_fit.1.inside (first j k + wide) e, items_fit.0))

  -- what is visited are the numbers of the rows
  pub visited_rows : visited g p reach ≡ concat (rows_near g p reach)
  unfolding visited block_near
  visited_rows =
      rows_same _ _ (count_near c.z reach d.z)
      (λ k b. rows_same _ _ (count_near c.y reach d.y)
      (λ j a. row_joined j k a b ∙ ap (λ (t : ℕ). slice (number_at g.starts t) (number_at g.starts (t + wide)) g.items) (sym (first_row g.lo g.hi g.side p reach j k))))
      ∙ sym (rows_joined g.starts g.items (block_near g.lo g.hi g.side p reach))

  -- whose rows lie in the tables, and their numbers among the first n items
  ends : (j k : ℕ) → j < count_near c.y reach d.y → k < count_near c.z reach d.z → number_at g.starts (first j k + wide) ≤ g.n
  ends j k a b = starts_fit.1.inside (first j k + wide) (row_in j k a b)

  -- which lie in the tables
  pub rows_held : RowsHeld g.starts g.items g.n (block_near g.lo g.hi g.side p reach)
  unfolding block_near
  rows_held =
      record {
        started = λ j k a b. rw (first_row g.lo g.hi g.side p reach j k) (omega (arith, row_in j k a b, starts_fit.0));
        rises = λ j k a b. rw (first_row g.lo g.hi g.side p reach j k) (run (first j k) wide (row_in j k a b));
        ends = λ j k a b. rw (first_row g.lo g.hi g.side p reach j k) (ends j k a b);
        held = items_fit.0;
      }

  -- and there are at most 512 rows and layers
  pub small : g.n ≤ max_surfels → Small g.n (block_near g.lo g.hi g.side p reach)
  unfolding block_near
  small e =
      let b = dims_bounded g.lo g.hi g.side in
      record {
        few = e;
        rows_few = omega (arith, near_end c.y reach d.y (inside g.lo g.hi g.side p reach).y_in, b.y_to);
        layers_few = omega (arith, near_end c.z reach d.z (inside g.lo g.hi g.side p reach).z_in, b.z_to);
      }

  -- each row ends among the first n items
  pub rows_within : (j k : ℕ) → j < (block_near g.lo g.hi g.side p reach).rows → k < (block_near g.lo g.hi g.side p reach).layers
      → row_to g.starts (block_near g.lo g.hi g.side p reach) j k ≤ g.n
  unfolding block_near
  rows_within j k a b = rw (first_row g.lo g.hi g.side p reach j k) (ends j k a b)

  -- so that one can go over them
  pub rows_begin : RowsLeft g.starts g.items (block_near g.lo g.hi g.side p reach) 0
  unfolding block_near
  rows_begin =
      let h = rows_held in
      record {
        held = record { started = h.started; rises = h.rises; ends = λ j k a b. omega (arith, h.ends j k a b, h.held); held = omega arith };
        next = omega (arith, (inside g.lo g.hi g.side p reach).y_in);
      }

  front_below : (m : ℕ) → m ≤ g.n → All (λ k. k < g.n) (take m g.items)
  front_below m h k d l =
      let w : k < m = omega (arith, length-take m g.items, l) in
      rw (get_or-take m g.items k d w, get_or_default g.items k d 0 (omega (arith, items_fit.0))) (items_fit.1 k (omega arith))

  -- what is visited are numbers of points
  pub visited_below : All (λ k. k < g.n) (visited g p reach)
  unfolding block_near
  visited_below =
      let b = block_near g.lo g.hi g.side p reach in
      let P : ℕ → Type 0 = λ k. k < g.n in
      rw visited_rows
      (rw (rows_joined g.starts g.items b)
      (all_rows P (λ k. rows (λ j. row_listed g.starts g.items b k j) b.rows) b.layers
      (λ k h. all_rows P (λ j. row_listed g.starts g.items b k j) b.rows
      (λ j a. All-drop P (row_from g.starts b j k) (take (row_to g.starts b j k) g.items)
      (front_below (row_to g.starts b j k) (rw (first_row g.lo g.hi g.side p reach j k) (ends j k a h)))))))

  -- and the numbers of its layers
  pub visited_block : visited g p reach ≡ block_listed g.starts g.items (block_near g.lo g.hi g.side p reach)
  visited_block = visited_rows ∙ rows_joined g.starts g.items (block_near g.lo g.hi g.side p reach)
