-- A bounce of the code is the bounce of the definition: rows that read the stored light of the clusters read the clusters' light. Assumes nothing.
use mathlib.Core.List.{List}
use mathlib.Core.Path.{◌≡◌, refl, ap, ◌∙◌}
use Prim.Native.Nat.{ℕ, ◌+◌, ◌<◌}
use native.Mathlib.Omega.{arith}
use lib.Ieee.{Float}
use Rattle.float.specs.Arithmetic.{0f}
use Rattle.float.specs.Column.{float_at}
use Rattle.float.specs.Order.{greater}
use Rattle.vector.specs.declared.Vec3.{Vec3}
use Rattle.vector.specs.Flat.{vec_at, components, written}
use Rattle.vector.specs.Vector.{plus, zero_vec, scaled, over}
use Rattle.vector.proofs.Replaced.{replaced_again, at_written, written_same}
use Rattle.vector.proofs.Sums.{fold_same}
use Rattle.accept.specs.Tables.{number_at}
use Rattle.transfer.specs.Room.{Room, Light, light_of}
use Rattle.solve.specs.Bounce.{least_area, member_light, cluster_light, link_light, row_light, rad_of, new_irr, new_rad, bounce, step, greatest_step, change}
use Rattle.transfer.specs.Needs.{Accepted}
use Rattle.solve.specs.Held.{cluster_light_of}

-- the clusters' light that a bounce from the light l starts with
abbrev pub clusters_light : Room → Light → ℕ → Vec3
clusters_light r l = cluster_light r.clusters r.area l.rad

-- vectors written once more, as many, are those that were written last
pub written_again : (f g : ℕ → Vec3) (n : ℕ) (l : List Float) → written f n (written g n l) ≡ written f n l
written_again f g = replaced_again 3 (λ i. components (f i)) (λ i. components (g i)) (λ i. refl)

-- a room that is accepted, and `power`, its irr with the surfels' power stored
module _ {r : Room} {l : Light} {s power : List Float} (ok : Accepted r l s) (stored : power ≡ written (member_light r.area l.rad) r.n l.irr) where
  -- it has each surfel's
  pub power_at : (i : ℕ) → i < r.n → vec_at power i ≡ member_light r.area l.rad i
  power_at i h = ap (λ (d : List Float). vec_at d i) stored ∙ at_written (member_light r.area l.rad) r.n i l.irr h

  -- and nothing of it is left once as many vectors are written over it
  pub over_power : (f : ℕ → Vec3) {irr : List Float} → irr ≡ written f r.n power → irr ≡ written f r.n l.irr
  over_power f e = rw (e, stored) (written_again f (member_light r.area l.rad) r.n l.irr)

  -- so each cluster's light by that power is its light
  cluster_agrees : (c : ℕ) → c < r.clusters.nc → cluster_light_of r.clusters (vec_at power) c ≡ clusters_light r l c
  unfolding cluster_light_of cluster_light
  cluster_agrees c h =
      let cs = r.clusters in
      let held = ok.clusters_held in
      let from = number_at cs.first c in
      let end = held.inside c h in
      ap (λ (v : Vec3). over v (greater (float_at cs.area c) least_area))
      (fold_same plus zero_vec _ _ _ (λ j k. power_at (number_at cs.member (from + j)) (held.each.below (from + j) (omega (arith, end, k)))))

  -- and so what is stored by that power is the clusters' light
  pub clusters_stored : (s₀ : List Float) {light : List Float} → light ≡ written (cluster_light_of r.clusters (vec_at power)) r.clusters.nc s₀ → light ≡ written (clusters_light r l) r.clusters.nc s₀
  clusters_stored s₀ e = e ∙ written_same _ (clusters_light r l) r.clusters.nc s₀ cluster_agrees

-- a room that is accepted, and `light`, the list s with its clusters' light stored
module _ {r : Room} {l : Light} {s light : List Float} (ok : Accepted r l s) (stored : light ≡ written (clusters_light r l) r.clusters.nc s) where
  -- each link reads its cluster's light
  links_agree : (k : ℕ) → k < r.rows.links → link_light r.rows (vec_at light) k ≡ link_light r.rows (clusters_light r l) k
  links_agree k h =
      let c = number_at r.rows.cluster k in
      ap (λ (v : Vec3). scaled v (float_at r.rows.weight k))
      (ap (λ (d : List Float). vec_at d c) stored ∙ at_written (clusters_light r l) r.clusters.nc c s (ok.rows_held.each.below k h))

  -- so each row brings the new irr
  irr_agrees : (i : ℕ) → i < r.n → row_light r.rows (vec_at light) i ≡ new_irr r l.rad i
  unfolding row_light new_irr
  irr_agrees i h =
      let up = ok.rows_held.rising i h in
      let end = ok.rows_held.inside (i + 1) (omega arith) in
      fold_same plus zero_vec _ _ _ (λ j k. links_agree (number_at r.rows.starts i + j) (omega (arith, k, up, end)))

  -- irr as the rows write it
  module _ {irr : List Float} (brought : irr ≡ written (row_light r.rows (vec_at light)) r.n l.irr) where
    -- it gives the new rad
    rad_agrees : (i : ℕ) → i < r.n → rad_of r.direct r.albedo i (vec_at irr i) ≡ new_rad r l.rad i
    unfolding new_rad
    rad_agrees i h =
        ap (rad_of r.direct r.albedo i)
        (ap (λ (d : List Float). vec_at d i) brought ∙ at_written (row_light r.rows (vec_at light)) r.n i l.irr h ∙ irr_agrees i h)

    -- so it is, with the rad that it gives, the light after the bounce
    pub bounce_by : {rad : List Float} → rad ≡ written (λ i. rad_of r.direct r.albedo i (vec_at irr i)) r.n l.rad → light_of irr rad ≡ bounce r l
    unfolding bounce
    bounce_by q =
        rw (brought ∙ written_same _ (new_irr r l.rad) r.n l.irr irr_agrees, q ∙ written_same _ (new_rad r l.rad) r.n l.rad rad_agrees)

    -- and the greatest step of rad is the change
    pub change_by : {d : Float} → d ≡ greatest_step (vec_at l.rad) (λ i. rad_of r.direct r.albedo i (vec_at irr i)) r.n → d ≡ change r l.rad
    unfolding change greatest_step
    change_by p = p ∙ fold_same greater 0f _ _ r.n (λ i h. ap (step (vec_at l.rad i)) (rad_agrees i h))
