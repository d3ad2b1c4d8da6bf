-- `grid::listing::count_layer` meets its contract. The loop has counted the numbers of the first y rows. Assumes nothing.
use mathlib.Core.Path.{◌≡◌, refl, sym}
use native.Mathlib.Omega.{arith}
use Rattle.vector.specs.Flat.{rows}
use Rattle.vector.proofs.Stored.{rows_counted}
use Rattle.grid.proofs.Slices.{row-length}
use borrow.Author.Rules.{rules}
use Rattle.grid.proofs.listing.count_layer.Goals as goal

pub loop-y-init : goal.loop-y-init
unfolding rows
loop-y-init c =
    (search rules, refl, search rules)

pub row_at-row-requires : goal.row_at-row-requires
row_at-row-requires c =
    record { rows_held = c.requires.rows_held; z_lt_layers = c.requires.z_lt_layers; y_lt_rows = c.loop-y-test.true }

pub overflow_sub-count : goal.overflow_sub-count
overflow_sub-count c =
    omega (arith, c.requires.rows_held.rises c.loop-y.y c.args.z c.loop-y-test.true c.requires.z_lt_layers, c.row_at-row.ensures)

pub overflow_add-count : goal.overflow_add-count
overflow_add-count c =
    omega (arith, c.requires.small, c.requires.rows_held.ends c.loop-y.y c.args.z c.loop-y-test.true c.requires.z_lt_layers, c.row_at-row.ensures)

pub loop-y-preserved : goal.loop-y-preserved
loop-y-preserved c =
    let n = row-length c.args.starts.now c.args.items.now c.args.n c.args.b c.requires.rows_held c.loop-y.y c.args.z c.loop-y-test.true c.requires.z_lt_layers in
    (search rules, rows_counted _ _ c.loop-y.invariant.1 (rw (c.row_at-row.ensures.from_value, c.row_at-row.ensures.to_value) (sym n)), omega (arith, c.requires.small, c.requires.rows_held.ends c.loop-y.y c.args.z c.loop-y-test.true c.requires.z_lt_layers, c.row_at-row.ensures))

pub returns : goal.returns
returns c =
    let e : c.loop-y.y ≡ c.args.b.rows = omega arith in
    record { value = rw e at c.loop-y.invariant.1; upper_bound = omega (arith, c.requires.small) }
