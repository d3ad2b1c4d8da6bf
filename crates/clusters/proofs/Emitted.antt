-- The columns of clusters from the groups that were stored. Assumes nothing.
use mathlib.Core.List.{List, [], ◌∷◌, ◌++◌}
use mathlib.Core.Path.{◌≡◌, ap, ◌∙◌}
use Prim.Native.Nat.{ℕ, ◌≤◌, ◌<◌}
use native.Mathlib.Omega.{arith}
use lib.Ieee.{Float}
use lib.ListN.{length, drop}
use lib.Seq.{length-sets, take_at, drop_at}
use Rattle.vector.specs.Flat.{written, filled}
use Rattle.vector.proofs.Replaced.{length_filled, replaced_same, written_same}
use Rattle.accept.specs.Tables.{number_at}
use Rattle.order.proofs.Ranks.{length_ordered, earlier_small, in_bucket}
use Rattle.clusters.specs.declared.Cluster.{Cluster}
use Rattle.clusters.specs.declared.Clustered.{Clustered}
use Rattle.clusters.specs.declared.Voxels.{Voxels}
use Rattle.clusters.specs.Grouping.{surfel_key, summed, cluster_from, groups, group_at, group_start, columns_left}
use Rattle.clusters.specs.Keys.{keys}
use Rattle.clusters.specs.Lent.{Surfels, Columns}
use Rattle.clusters.specs.Needs.{Resolved, Ranged, Roomy, Sorted, clustered_of, first_left, count_left, member_left, cluster_at}
use Rattle.clusters.specs.Sorting.{in_order}
use Rattle.clusters.proofs.Gathered.{below_small, group_keyed}
use Rattle.clusters.proofs.Numbered.{key_below}
use Rattle.clusters.proofs.Stored.{joined, first_at, count_at, members_at_lem, group_ends}

-- the numbers in order, and what followed
module _ (s : Surfels) (v : Voxels) (r : Resolved v) (old : List ℕ) {l : List ℕ} (e : l ≡ in_order s v ++ drop s.n old) where
  order_length : length (in_order s v) ≡ s.n
  order_length = length_ordered (surfel_key s v) (keys v.res) s.n (λ i h. key_below s v i r)

  pub order_sorted : s.n ≤ length l → Sorted s v l
  order_sorted h = record { held = h; as_sorted = rw e (take_at (in_order s v) (drop s.n old) s.n order_length) }

  pub order_kept : drop s.n l ≡ drop s.n old
  order_kept = rw e (drop_at (in_order s v) (drop s.n old) s.n order_length)

module _ (s : Surfels) (v : Voxels) where
  -- no more groups than surfels, and no more members
  pub groups_few : (length (groups s v) ≤ s.n) × (length (joined (groups s v)) ≤ s.n)
  unfolding groups
  groups_few =
      let b = below_small s v (keys v.res) in
      let t = earlier_small (surfel_key s v) s.n (keys v.res) in
      (omega (arith, b, t), omega (arith, b, t))

  pub made_few : {c : Clustered} → c ≡ clustered_of (groups s v) → c.clusters ≤ s.n
  made_few a = omega (arith, ap (λ (x : Clustered). x.clusters) a, groups_few)

  -- the members of a group are surfels
  pub members_below : (k q : ℕ) → k < length (groups s v) → q < length (group_at (groups s v) k) → number_at (group_at (groups s v) k) q < s.n
  unfolding groups
  members_below k q h l =
      let w = group_keyed s v (keys v.res) k h in
      rw w.there (in_bucket (surfel_key s v) w.of_key s.n q (rw w.there at l)).below

  module _ (l : Columns) (roomy : Roomy s.n l) {first count members : List ℕ} {c : Clustered} (a : c ≡ clustered_of (groups s v))
      (f : first ≡ first_left (groups s v) l.first) (o : count ≡ count_left (groups s v) l.count) (t : members ≡ member_left (groups s v) l.member) where
    abbrev gs : List (List ℕ)
    gs = groups s v

    made : c.clusters ≡ length gs
    made = ap (λ (x : Clustered). x.clusters) a

    room : length (joined gs) ≤ length l.member
    room = omega (arith, groups_few, roomy.members)

    -- what `aggregate` asks of the lists
    pub ranged : Ranged s.n c.clusters first count members
    ranged =
        rw (made, f, o, t)
        (record {
          firsts = rw (length_filled (group_start gs) (length gs) l.first (omega (arith, groups_few, roomy.firsts))) (omega (arith, groups_few, roomy.firsts));
          counts = rw (length_filled (λ k. length (group_at gs k)) (length gs) l.count (omega (arith, groups_few, roomy.counts))) (omega (arith, groups_few, roomy.counts));
          within = λ k h.
              rw (first_at gs l.first l.count l.member room k h, count_at gs l.first l.count l.member room k h, length-sets l.member 0 (joined gs))
              (omega (arith, group_ends gs l.first l.count l.member room k h, room));
          below = λ k h. rw (members_at_lem gs l.first l.count l.member room k h) (λ q p. members_below k q h p);
        })

    same_cluster : (k : ℕ) → k < length gs → cluster_at s first count members k ≡ cluster_from (summed s (group_at gs k))
    same_cluster k h = rw (f, o, t) (ap (λ (x : List ℕ). cluster_from (summed s x)) (members_at_lem gs l.first l.count l.member room k h))

    -- what it leaves are the columns
    pub columns_made : {p n area radius : List Float}
        → p ≡ written (λ k. (cluster_at s first count members k).p) c.clusters l.p
        → n ≡ written (λ k. (cluster_at s first count members k).n) c.clusters l.n
        → area ≡ filled (λ k. (cluster_at s first count members k).area) c.clusters l.area
        → radius ≡ filled (λ k. (cluster_at s first count members k).radius) c.clusters l.radius
        → record { p = p; n = n; area = area; radius = radius; first = first; count = count; member = members } ≡ columns_left s gs l
    unfolding columns_left
    columns_made {p} {n} {area} {radius} x y z w =
        let made-cluster : ℕ → Cluster = λ k. cluster_from (summed s (group_at gs k)) in
        let e : p ≡ written (λ k. (made-cluster k).p) (length gs) l.p =
        x ∙ rw made (written_same _ _ (length gs) l.p (λ k h. ap (λ (u : Cluster). u.p) (same_cluster k h))) in
        let d : n ≡ written (λ k. (made-cluster k).n) (length gs) l.n =
        y ∙ rw made (written_same _ _ (length gs) l.n (λ k h. ap (λ (u : Cluster). u.n) (same_cluster k h))) in
        let b : area ≡ filled (λ k. (made-cluster k).area) (length gs) l.area =
        z ∙ rw made (replaced_same 1 _ _ (length gs) l.area (λ k h. ap (λ (u : Cluster). u.area ∷ []) (same_cluster k h))) in
        let q : radius ≡ filled (λ k. (made-cluster k).radius) (length gs) l.radius =
        w ∙ rw made (replaced_same 1 _ _ (length gs) l.radius (λ k h. ap (λ (u : Cluster). u.radius ∷ []) (same_cluster k h))) in
        rw (e, d, b, q, f, o, t)
