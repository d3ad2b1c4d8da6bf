-- The light of one cluster and of one row, and the greatest step with one vector more: what the loops over clusters and surfels cite. Assumes nothing.
use mathlib.Core.List.{List}
use mathlib.Core.Path.{◌≡◌, ap, ◌∙◌}
use Prim.Native.Nat.{ℕ, ◌+◌, ◌-◌, ◌*◌, ◌/◌, ◌<◌, ◌≤◌}
use native.Mathlib.Omega.{arith}
use lib.Ieee.{Float}
use lib.ListN.{length, take, drop, length-take, length-drop}
use lib.Seq.{get_or-drop, get_or-take}
use Rattle.std.specs.Simd.{first_chunks}
use Rattle.float.specs.Arithmetic.{0f}
use Rattle.float.specs.Column.{float_at}
use Rattle.float.specs.Order.{greater}
use Rattle.vector.specs.declared.Vec3.{Vec3}
use Rattle.vector.specs.Flat.{vec_at}
use Rattle.vector.specs.Fold.{total}
use Rattle.vector.specs.Vector.{plus, zero_vec, over}
use Rattle.vector.proofs.Sums.{fold_none, fold_more, fold_same}
use Rattle.accept.specs.Tables.{number_at}
use Rattle.transfer.specs.Room.{Clusters, Rows}
use Rattle.solve.specs.Held.{ClustersListed, cluster_light_of, triple}
use Rattle.solve.proofs.Chunked.{triple_at}
use Rattle.solve.specs.Bounce.{least_area, link_light, row_light, step, greatest_step}

-- the sum s over a cluster's members, which stand from `from` up to `from + count`, divided by the larger of its area and 1e-12, is its light by that power
pub cluster_light_by : (cs : Clusters) (power : List Float) {n : ℕ} → ClustersListed n cs → 3 * n ≤ length power → (c : ℕ) → c < cs.nc
    → {from count : ℕ} {triples : List (List Float)} {s v : Vec3} {d : Float}
    → from ≡ number_at cs.first c
    → count ≡ number_at cs.count c
    → triples ≡ first_chunks 3 (length power / 3) power
    → s ≡ total (λ j. triple triples (number_at (take (from + count - from) (drop from cs.member)) j)) (length (take (from + count - from) (drop from cs.member)))
    → d ≡ greater (float_at cs.area c) least_area
    → v ≡ over s d
    → v ≡ cluster_light_of cs (vec_at power) c
unfolding cluster_light_of
cluster_light_by cs power {n} listed held c h {from} {count} p q t r e f =
    let end = listed.inside c h in
    let m = from + count - from in
    let l = take m (drop from cs.member) in
    let first = number_at cs.first c in
    let chunks = first_chunks 3 (length power / 3) power in
    let long : length l ≡ number_at cs.count c = simp (length-take, length-drop) (omega (arith, p, q, end, listed.members)) in
    let each : (j : ℕ) → j < number_at cs.count c → triple chunks (number_at l j) ≡ vec_at power (number_at cs.member (first + j)) = λ j k.
    let few : j < m = omega (arith, q, k) in
    let here : number_at l j ≡ number_at cs.member (first + j) =
    get_or-take m (drop from cs.member) j 0 few ∙ get_or-drop from cs.member j 0 ∙ ap (λ (i : ℕ). number_at cs.member (i + j)) p in
    let below = listed.below (first + j) (omega (arith, end, k)) in
    ap (triple chunks) here ∙ triple_at power (number_at cs.member (first + j)) (omega (arith, below, held))
    in
    rw (f, e, r, t, long, fold_same plus zero_vec _ _ (number_at cs.count c) each)

-- the sum s over the links from one start up to the next is what the row brings
pub row_light_by : (rs : Rows) (light : ℕ → Vec3) (i : ℕ) {from to : ℕ} {s : Vec3}
    → from ≡ number_at rs.starts i
    → to ≡ number_at rs.starts (i + 1)
    → s ≡ total (λ j. link_light rs light (from + j)) (to - from)
    → s ≡ row_light rs light i
unfolding row_light
row_light_by rs light i p q r = rw (r, p, q)

module _ (from to : ℕ → Vec3) where
  -- no step is made yet
  pub steps_none : {d : Float} → d ≡ 0f → d ≡ greatest_step from to 0
  unfolding greatest_step
  steps_none e = fold_none greater 0f (λ i. step (from i) (to i)) e

  -- d is the greatest of i steps, x the next, from a to b, and e the greater of the two
  pub steps_more : (i : ℕ) {d e x : Float} {a b : Vec3}
      → d ≡ greatest_step from to i → a ≡ from i → b ≡ to i → x ≡ step a b → e ≡ greater d x → e ≡ greatest_step from to (i + 1)
  unfolding greatest_step
  steps_more i p q r f e = fold_more greater 0f (λ j. step (from j) (to j)) i p (rw (f, q, r)) e
