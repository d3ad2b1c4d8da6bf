-- `grid::listing::list_layer` meets its contract. The loop has stored the numbers of the first y rows. Assumes nothing.
use mathlib.Core.Path.{◌≡◌, refl, sym, ap, ◌∙◌}
use Prim.Native.Nat.{ℕ, ◌+◌}
use native.Mathlib.Nat.{add-zero}
use native.Mathlib.Omega.{arith}
use Rattle.vector.specs.Flat.{rows}
use Rattle.grid.specs.Rows.{row_listed}
use Rattle.vector.proofs.Stored.{rows-length, rows_stored}
use Rattle.grid.proofs.Slices.{row-length}
use borrow.Author.Rules.{rules}
use Rattle.grid.proofs.listing.list_layer.Goals as goal

pub loop-y-init : goal.loop-y-init
unfolding rows
loop-y-init c =
    (search rules, sym (add-zero _), refl, refl)

pub row_at-row-requires : goal.row_at-row-requires
row_at-row-requires c =
    record { rows_held = c.requires.rows_held; z_lt_layers = c.requires.z_lt_layers; y_lt_rows = c.loop-y-test.true }

pub list_row-requires : goal.list_row-requires
list_row-requires c =
    let f = row_listed c.args.starts.now c.args.items.now c.args.b c.args.z in
    let n = row-length c.args.starts.now c.args.items.now c.args.n c.args.b c.requires.rows_held c.loop-y.y c.args.z c.loop-y-test.true c.requires.z_lt_layers in
    let fits = rows-length f c.loop-y.y c.args.b.rows c.loop-y-test.true in
    let e = c.row_at-row.ensures in
    record { from_le_to = omega (arith, c.requires.rows_held.rises c.loop-y.y c.args.z c.loop-y-test.true c.requires.z_lt_layers, e); to_in_bounds = omega (arith, c.requires.rows_held.ends c.loop-y.y c.args.z c.loop-y-test.true c.requires.z_lt_layers, c.requires.rows_held.held, e); from_in_bounds = omega (arith, fits, n, c.requires.z_in_bounds, c.loop-y.invariant.1, c.loop-y.invariant.3, e) }

pub overflow_sub-k : goal.overflow_sub-k
overflow_sub-k c =
    omega (arith, c.requires.rows_held.rises c.loop-y.y c.args.z c.loop-y-test.true c.requires.z_lt_layers, c.row_at-row.ensures)

pub overflow_add-k : goal.overflow_add-k
overflow_add-k c =
    let f = row_listed c.args.starts.now c.args.items.now c.args.b c.args.z in
    let n = row-length c.args.starts.now c.args.items.now c.args.n c.args.b c.requires.rows_held c.loop-y.y c.args.z c.loop-y-test.true c.requires.z_lt_layers in
    let fits = rows-length f c.loop-y.y c.args.b.rows c.loop-y-test.true in
    omega (arith, fits, n, c.requires.z_in_bounds, c.loop-y.invariant.1, c.loop-y.invariant.3, c.row_at-row.ensures)

pub loop-y-preserved : goal.loop-y-preserved
loop-y-preserved c =
    let f = row_listed c.args.starts.now c.args.items.now c.args.b c.args.z in
    let n = row-length c.args.starts.now c.args.items.now c.args.n c.args.b c.requires.rows_held c.loop-y.y c.args.z c.loop-y-test.true c.requires.z_lt_layers in
    let fits = rows-length f c.loop-y.y c.args.b.rows c.loop-y-test.true in
    let st = rows_stored f c.loop-y.y c.args.at c.args.list.now c.loop-y.invariant.2 c.loop-y.invariant.1 (rw (c.row_at-row.ensures.from_value, c.row_at-row.ensures.to_value) at c.list_row.ensures) in
    (search rules, rw (c.row_at-row.ensures.from_value, c.row_at-row.ensures.to_value) (ap (λ (m : ℕ). c.loop-y.k + m) (sym n) ∙ st.1), st.0, omega arith)

pub shape_of-list : goal.shape_of-list
shape_of-list c =
    c.loop-y.invariant.3

pub returns : goal.returns
returns c =
    let e : c.loop-y.y ≡ c.args.b.rows = omega arith in
    record { value = rw e at c.loop-y.invariant.1; list_after = rw e at c.loop-y.invariant.2 }
