-- `placement::storing::store` meets its contract. The loop has stored the first i surfels. Assumes nothing.
use mathlib.Core.Path.{refl, ap, ◌∙◌}
use Prim.Native.Nat.{◌<◌}
use native.Mathlib.Omega.{arith}
use Rattle.vector.specs.Flat.{vec_at}
use Rattle.seeds.specs.Surfels.{surfel_at}
use Rattle.placement.specs.Lent.{Request}
use Rattle.placement.proofs.Columned.{columns_none, columns_more, surfel_there}
use Rattle.placement.proofs.storing.store.Goals as goal

pub loop-i-init : goal.loop-i-init
loop-i-init c =
    columns_none _ _

pub loop-i-preserved : goal.loop-i-preserved
loop-i-preserved c =
    let h : c.loop-i.i < c.args.count = omega (arith, c.loop-i-test.true) in
    let u = ap (λ (o : Request). surfel_at o.scene o.mats o.materials c.args.s (vec_at c.args.p.now c.loop-i.i)) c.request.view_is in
    let v = (rw c.at.ensures at c.surfel_at-made.ensures) ∙ u in
    columns_more _ _ _ _ (λ j. surfel_there _ _ _ _ _) h c.requires c.loop-i.invariant v refl c.put_surfel.ensures.n_after c.put_surfel.ensures.albedo_after c.put_surfel.ensures.area_after c.put_surfel.ensures.direct_after c.put_surfel.ensures.irr_after c.put_surfel.ensures.rad_after
