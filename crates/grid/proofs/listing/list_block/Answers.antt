-- `grid::listing::list_block` meets its contract. The loop has stored the numbers of the first z layers. Assumes nothing.
use mathlib.Core.Path.{◌≡◌, refl, ◌∙◌}
use native.Mathlib.Omega.{arith}
use Rattle.vector.specs.Flat.{rows}
use Rattle.grid.specs.Rows.{layer_listed}
use Rattle.vector.proofs.Stored.{rows_stored, rows-length}
use borrow.Author.Rules.{rules}
use Rattle.grid.proofs.listing.list_block.Goals as goal

pub loop-z-init : goal.loop-z-init
unfolding rows
loop-z-init c =
    (search rules, refl, refl, refl)

pub list_layer-at-requires : goal.list_layer-at-requires
list_layer-at-requires c =
    let f = layer_listed c.args.starts.now c.args.items.now c.args.b in
    record { rows_held = c.requires.rows_held; z_lt_layers = c.loop-z-test.true; z_in_bounds = omega (arith, rows-length f c.loop-z.z c.args.b.layers c.loop-z-test.true, c.requires.b_in_bounds, c.loop-z.invariant.1, c.loop-z.invariant.3) }

pub loop-z-preserved : goal.loop-z-preserved
loop-z-preserved c =
    let f = layer_listed c.args.starts.now c.args.items.now c.args.b in
    let st = rows_stored f c.loop-z.z 0 c.args.list.now c.loop-z.invariant.2 (omega (arith, c.loop-z.invariant.1)) c.list_layer-at.ensures.list_after in
    (search rules, c.list_layer-at.ensures.value ∙ omega (arith, st.1), st.0, omega arith)

pub shape_of-list : goal.shape_of-list
shape_of-list c =
    c.loop-z.invariant.3

pub returns : goal.returns
returns c =
    let e : c.loop-z.z ≡ c.args.b.layers = omega arith in
    rw e at c.loop-z.invariant.2
