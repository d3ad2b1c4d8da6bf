-- `grid::listing::count_block` meets its contract. The loop has counted the numbers of the first z layers. Assumes nothing.
use mathlib.Core.Path.{◌≡◌, refl}
use native.Mathlib.Omega.{arith}
use Rattle.vector.specs.Flat.{rows}
use Rattle.vector.proofs.Stored.{rows_counted}
use borrow.Author.Rules.{rules}
use Rattle.grid.proofs.listing.count_block.Goals as goal

pub loop-z-init : goal.loop-z-init
unfolding rows
loop-z-init c =
    (search rules, refl, search rules)

pub count_layer-count-requires : goal.count_layer-count-requires
count_layer-count-requires c =
    record { rows_held = c.requires.rows_held; small = c.requires.small; z_lt_layers = c.loop-z-test.true }

pub overflow_add-count : goal.overflow_add-count
overflow_add-count c =
    omega (arith, c.loop-z-test.true, c.count_layer-count.ensures.upper_bound, c.requires.small)

pub loop-z-preserved : goal.loop-z-preserved
loop-z-preserved c =
    (search rules, rows_counted _ _ c.loop-z.invariant.1 c.count_layer-count.ensures.value, omega (arith, c.count_layer-count.ensures.upper_bound))

pub returns : goal.returns
returns c =
    let e : c.loop-z.z ≡ c.args.b.layers = omega arith in
    rw e at c.loop-z.invariant.1
