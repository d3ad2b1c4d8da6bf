-- `placement::storing::store` meets its contract. The loop has stored the first i surfels. Assumes nothing.
use mathlib.Core.Path.{◌≡◌}
use Rattle.vector.specs.Flat.{vec_at}
use Rattle.seeds.specs.Surfels.{surfel_at}
use Rattle.placement.specs.Kept.{columns_by}
use Rattle.placement.specs.Lent.{columns_of}
use Rattle.placement.proofs.storing.store.Given as goal

abbrev pub invariant-loop-i : goal.invariant-loop-i
invariant-loop-i l =
    columns_of l.p l.n l.albedo l.area l.direct l.irr l.rad
    ≡ columns_by (λ j. surfel_at l.request.scene l.request.mats l.request.materials l.s (vec_at l.p j)) l.i (columns_of l.p l.initial.n l.initial.albedo l.initial.area l.initial.direct l.initial.irr l.initial.rad)
