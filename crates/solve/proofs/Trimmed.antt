-- A run reads and writes only what its room needs: of lists cut to their need it makes the run cut to it, and what they hold past it stays. Assumes nothing.
use mathlib.Core.Bool.{Bool, true, false, cond}
use mathlib.Core.List.{List}
use mathlib.Core.Path.{◌≡◌, refl, ap, ◌∙◌}
use Prim.Native.Nat.{ℕ, zero, suc, ◌+◌, ◌*◌, ◌-◌, ◌≤◌, ◌<◌}
use native.Mathlib.Omega.{arith}
use lib.Dec.{eqb}
use lib.Ieee.{Float, nan}
use lib.ListN.{length, take, drop}
use lib.Seq.{get_or-take}
use Rattle.float.specs.Arithmetic.{0f}
use Rattle.float.specs.Column.{float_at}
use Rattle.float.specs.Order.{greater}
use Rattle.vector.specs.declared.Vec3.{Vec3}
use Rattle.vector.specs.Flat.{vec_at}
use Rattle.vector.specs.Vector.{plus, zero_vec, over}
use Rattle.vector.proofs.Replaced.{at_cut, length_written, written_same, written_past, written_cut}
use Rattle.vector.proofs.Sums.{fold_same}
use Rattle.accept.specs.Tables.{number_at}
use Rattle.accept.proofs.Agree.{number_cut}
use Rattle.transfer.specs.Room.{Clusters, Rows, Room, Light}
use Rattle.solve.specs.Bounce.{least_area, member_light, cluster_light, link_light, row_light, new_irr, new_rad, bounce, step, greatest_step, change}
use Rattle.solve.specs.Runs.{Run, no_bounce, next, stopped, more, run, bounced, clusters_after}
use Rattle.transfer.specs.Needs.{ClustersHeld, RowsHeld, Accepted}
use Rattle.transfer.proofs.Acceptance.{accepted_also}
use Rattle.solve.specs.Calls.{cut_clusters, cut_rows, cut_room, cut_light}
use Rattle.solve.proofs.Onward.{either}

-- a run whose light is cut to n surfels
abbrev pub cut_run : ℕ → Run → Run
cut_run n q = record { bounces = q.bounces; last = q.last; light = cut_light n q.light }

-- a member's light
member_cut : (n : ℕ) (area rad : List Float) (i : ℕ) → i < n → member_light (take n area) (take (3 * n) rad) i ≡ member_light area rad i
member_cut n area rad i h = rw (at_cut n rad i h, get_or-take n area i nan h)

-- a cluster's light
cluster_cut : (n : ℕ) (cs : Clusters) (area rad : List Float) → ClustersHeld n cs area rad
    → (c : ℕ) → c < cs.nc → cluster_light (cut_clusters cs) (take n area) (take (3 * n) rad) c ≡ cluster_light cs area rad c
unfolding cluster_light
cluster_cut n cs area rad held c h =
    let first = number_at cs.first c in
    let count = number_at cs.count c in
    let inside = held.inside c h in
    rw (get_or-take cs.nc cs.area c nan h, number_cut cs.nc cs.first c h, number_cut cs.nc cs.count c h)
    (ap (λ (v : Vec3). over v (greater (float_at cs.area c) least_area))
    (fold_same plus zero_vec _ (λ j. member_light area rad (number_at cs.member (first + j))) count
    (λ j k.
    rw (number_cut cs.members cs.member (first + j) (omega arith))
    (member_cut n area rad (number_at cs.member (first + j)) (held.each.below (first + j) (omega arith))))))

-- what a row brings, of lights that agree at the clusters
row_cut : (n nc : ℕ) (rs : Rows) (s : List Float) (light other : ℕ → Vec3) → RowsHeld n nc rs s → ((c : ℕ) → c < nc → light c ≡ other c)
    → (i : ℕ) → i < n → row_light (cut_rows n rs) light i ≡ row_light rs other i
unfolding row_light
row_cut n nc rs s light other held same i h =
    let from = number_at rs.starts i in
    let to = number_at rs.starts (i + 1) in
    let inside = held.inside (i + 1) (omega arith) in
    rw (number_cut (n + 1) rs.starts i (omega arith), number_cut (n + 1) rs.starts (i + 1) (omega arith))
    (fold_same plus zero_vec _ (λ j. link_light rs other (from + j)) (to - from)
    (λ j k.
    let c = number_at rs.cluster (from + j) in
    rw (
      number_cut rs.links rs.cluster (from + j) (omega arith),
      get_or-take rs.links rs.weight (from + j) nan (omega arith),
      same c (held.each.below (from + j) (omega arith)),
    )))

module _ (r : Room) (s : List Float) where
  -- irr of a surfel after a bounce
  new_irr_cut : (l : Light) → Accepted r l s → (i : ℕ) → i < r.n → new_irr (cut_room r) (take (3 * r.n) l.rad) i ≡ new_irr r l.rad i
  unfolding new_irr
  new_irr_cut l a =
      row_cut r.n r.clusters.nc r.rows s _ _ a.rows_held (cluster_cut r.n r.clusters r.area l.rad a.clusters_held)

  -- and its rad
  new_rad_cut : (l : Light) → Accepted r l s → (i : ℕ) → i < r.n → new_rad (cut_room r) (take (3 * r.n) l.rad) i ≡ new_rad r l.rad i
  unfolding new_rad
  new_rad_cut l a i h = rw (at_cut r.n r.direct i h, at_cut r.n r.albedo i h, new_irr_cut l a i h)

  -- the light after a bounce
  bounce_cut : (l : Light) → Accepted r l s → bounce (cut_room r) (cut_light r.n l) ≡ cut_light r.n (bounce r l)
  unfolding bounce
  bounce_cut l a =
      rw (
        written_same _ (new_irr r l.rad) r.n (take (3 * r.n) l.irr) (new_irr_cut l a),
        written_same _ (new_rad r l.rad) r.n (take (3 * r.n) l.rad) (new_rad_cut l a),
        written_cut (new_irr r l.rad) r.n l.irr,
        written_cut (new_rad r l.rad) r.n l.rad,
      )

  -- the last change
  change_cut : (l : Light) → Accepted r l s → change (cut_room r) (take (3 * r.n) l.rad) ≡ change r l.rad
  unfolding change greatest_step
  change_cut l a =
      fold_same greater 0f _ (λ i. step (vec_at l.rad i) (new_rad r l.rad i)) r.n (λ i h. rw (at_cut r.n l.rad i h, new_rad_cut l a i h))

  -- one bounce more
  next_cut : (q : Run) → Accepted r q.light s → next (cut_room r) (cut_run r.n q) ≡ cut_run r.n (next r q)
  unfolding next
  next_cut q a = rw (change_cut q.light a, bounce_cut q.light a)

-- a bounce keeps the lengths of lists that have the surfels
pub length_bounce : (r : Room) (l : Light) → 3 * r.n ≤ length l.irr → 3 * r.n ≤ length l.rad
    → (length (bounce r l).irr ≡ length l.irr) × (length (bounce r l).rad ≡ length l.rad)
unfolding bounce
length_bounce r l h k = (length_written (new_irr r l.rad) r.n l.irr h, length_written (new_rad r l.rad) r.n l.rad k)

-- and so the room stays accepted
pub accepted_bounce : (r : Room) (l : Light) (s : List Float) → Accepted r l s → Accepted r (bounce r l) s
accepted_bounce r l s a =
    let p = length_bounce r l a.irrs a.clusters_held.each.rads in
    accepted_also (bounce r l) s p.0 p.1 refl a

-- a choice of what f makes is what f makes of the choice
cond_by : {A B : Type 0} (f : A → B) (b : Bool) (x y : A) → cond b (f x) (f y) ≡ f (cond b x y)
cond_by f true x y = refl
cond_by f false x y = refl

-- at most m bounces more, from any run so far
pub more_cut : (r : Room) (s : List Float) (m : ℕ) (q : Run) → Accepted r q.light s → more (cut_room r) m (cut_run r.n q) ≡ cut_run r.n (more r m q)
unfolding more next
more_cut r s zero q a = refl
more_cut r s (suc m) q a =
    rw (next_cut r s q a, more_cut r s m (next r q) (accepted_bounce r q.light s a))
    (cond_by (cut_run r.n) (stopped q.bounces q.last) q (more r m (next r q)))

-- a run of the room cut to its need
pub run_cut : (r : Room) (m : ℕ) (l : Light) (s : List Float) → Accepted r l s → run (cut_room r) m (cut_light r.n l) ≡ cut_run r.n (run r m l)
unfolding run
run_cut r m l s a = rw (more_cut r s m (no_bounce l) a) (cond_by (cut_run r.n) (eqb r.clusters.nc 0) (no_bounce l) (more r m (no_bounce l)))

-- ---- what stays

-- what each bounce keeps of the light, a run keeps
module _ (r : Room) (P : Light → Type 0) (keeps : (l : Light) → P l → P (bounce r l)) where
  -- from any run so far
  pub more_keeps : (m : ℕ) (q : Run) → P q.light → P (more r m q).light
  unfolding more next
  more_keeps zero q h = h
  more_keeps (suc m) q h = either (λ (x : Run). P x.light) (stopped q.bounces q.last) q (more r m (next r q)) h (more_keeps m (next r q) (keeps q.light h))

  -- and from the light
  pub run_keeps : (m : ℕ) (l : Light) → P l → P (run r m l).light
  unfolding run
  run_keeps m l h = either (λ (x : Run). P x.light) (eqb r.clusters.nc 0) (no_bounce l) (more r m (no_bounce l)) h (more_keeps m (no_bounce l) h)

-- what irr and rad hold past the surfels
pub run_past : (r : Room) (m : ℕ) (l : Light)
    → (drop (3 * r.n) (run r m l).light.irr ≡ drop (3 * r.n) l.irr) × (drop (3 * r.n) (run r m l).light.rad ≡ drop (3 * r.n) l.rad)
unfolding bounce
run_past r m l =
    run_keeps r (λ k. (drop (3 * r.n) k.irr ≡ drop (3 * r.n) l.irr) × (drop (3 * r.n) k.rad ≡ drop (3 * r.n) l.rad))
    (λ k h. (written_past (new_irr r k.rad) r.n k.irr ∙ h.0, written_past (new_rad r k.rad) r.n k.rad ∙ h.1)) m l (refl, refl)

-- what the scratch holds past the clusters
pub clusters_past : (r : Room) (k : ℕ) (l : Light) (s : List Float) → drop (3 * r.clusters.nc) (clusters_after r k l s) ≡ drop (3 * r.clusters.nc) s
unfolding clusters_after
clusters_past r zero l s = refl
clusters_past r (suc k) l s = written_past (cluster_light r.clusters r.area (bounced r k l).rad) r.clusters.nc s
