-- `grid::walking::Fitted::rows_near` meets its contract. In a grid that fits together one can go over the rows near a point. Assumes nothing.
use mathlib.Core.Bool.{true}
use mathlib.Core.Path.{◌≡◌}
use Rattle.grid.specs.Checks.{list_fits}
use Rattle.grid.specs.Lent.{grid_of}
use Rattle.grid.proofs.Nearby.{rows_begin}
use Rattle.grid.proofs.walking.Fitted.rows_near.Goals as goal

pub invariant_of-result : goal.invariant_of-result
invariant_of-result c =
    let i = c.grid.inside in
    let g = grid_of i.n i.starts.now i.items.now i.space.lo i.space.hi i.space.cell in
    let fits : list_fits g ≡ true = rw c.grid.view_is c.self.invariant in
    rw c.block_near.ensures (rows_begin g c.args.p c.args.reach fits)
