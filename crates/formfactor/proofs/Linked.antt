-- Raw links, one cluster more at a time: how many they are, what their sum is, and how they are stored. Assumes nothing.
use mathlib.Core.List.{List, [], ◌∷◌, append-nil}
use mathlib.Core.Path.{◌≡◌, refl, sym, ◌∙◌}
use Prim.Native.Nat.{ℕ, zero, suc, ◌+◌, ◌*◌, ◌≤◌}
use native.Mathlib.Numerals.{add-one}
use native.Mathlib.Omega.{arith}
use lib.Ieee.{Float, binary32, of_bits}
use lib.ListN.{length, take, length-append}
use lib.Seq.{sets}
use Rattle.std.specs.Prelude.{Option, Some, None}
use Rattle.float.specs.Arithmetic.{◌*f◌, 0f, 1f}
use Rattle.float.specs.Order.{lesser}
use Rattle.vector.specs.Fold.{fold}
use Rattle.vector.proofs.Stored.{sets_front_append, take_sets, sets_over}
use Rattle.tables.specs.Tables.{Scene}
use Rattle.scene.specs.declared.Closure.{Closure}
use Rattle.scene.proofs.Evals.{closure_evals}
use Rattle.clusters.specs.declared.Cluster.{Cluster}
use Rattle.links.specs.declared.Receiver.{Receiver}
use Rattle.links.specs.declared.Pair.{Pair}
use Rattle.formfactor.specs.declared.RowMade.{RowMade}
use Rattle.links.specs.Pairs.{pair_of}
use Rattle.links.specs.Scaling.{row_sum, target_of, calibrated, calibrated_sum}
use Rattle.links.proofs.Faced.{pair_evals}
use Rattle.links.proofs.Scaled.{row_sum_more, length_calibrated}
use Rattle.formfactor.specs.Linking.{Links, Row, no_links, cluster_if, weight_if, linked_to, raw_links, openness, row_of}
use Rattle.formfactor.specs.Needs.{pair_made, links_made, row_made}

-- nothing is told yet
none_made : {links evals : ℕ} {sum : Float} → links ≡ 0 → sum ≡ 0f → evals ≡ 0
    → ◌≡◌ {A = RowMade} (record { links = links; sum = sum; evals = evals }) (record { links = 0; sum = 0f; evals = 0 })
none_made p q r = rw (p, q, r)

-- what a pair adds
added_by : (l : Links) (c : ℕ) (pair : Pair) (w : Option Float) → pair.weight ≡ w → links_made (linked_to l c pair) ≡ pair_made (links_made l) pair
unfolding links_made linked_to pair_made
added_by l c pair (Some w) e = rw (e, length-append l.cluster (c ∷ []), row_sum_more l.weight w)
added_by l c pair None e = rw (e, append-nil l.cluster, append-nil l.weight)

module _ (s : Scene) (diag : Float) (a : Receiver) (cluster : ℕ → Cluster) where
  abbrev raw : ℕ → Links
  raw c = raw_links s diag a cluster c

  pub raw_none : raw 0 ≡ no_links
  unfolding raw_links fold
  raw_none = refl

  pub raw_more : (c : ℕ) → raw (c + 1) ≡ linked_to (raw c) c (pair_of s diag a (cluster c))
  unfolding raw_links fold
  raw_more c = rw (add-one c)

  -- each cluster gives one link at most, with its weight, and 96 evaluations
  one_more : (l : Links) (c : ℕ) (pair : Pair) (w : Option Float) → pair.weight ≡ w → length l.cluster ≤ c → length l.weight ≡ length l.cluster
      → (length (linked_to l c pair).cluster ≤ c + 1) × (length (linked_to l c pair).weight ≡ length (linked_to l c pair).cluster)
  unfolding linked_to
  one_more l c pair (Some w) e h k = (rw (e, length-append l.cluster (c ∷ [])) (omega arith), rw (e, length-append l.cluster (c ∷ []), length-append l.weight (w ∷ []), k))
  one_more l c pair None e h k = (rw (e, append-nil l.cluster) (omega arith), rw (e, append-nil l.cluster, append-nil l.weight) k)

  pub raw_few : (c : ℕ) → (length (raw c).cluster ≤ c) × (length (raw c).weight ≡ length (raw c).cluster)
  raw_few zero = (rw raw_none (omega arith), rw raw_none)
  raw_few (suc c) =
      let h = raw_few c in
      let k = one_more (raw c) c (pair_of s diag a (cluster c)) _ refl h.0 h.1 in
      let e : raw (suc c) ≡ linked_to (raw c) c (pair_of s diag a (cluster c)) = rw (sym (add-one c)) (raw_more c) in
      (rw (e, sym (add-one c)) k.0, rw e k.1)

  pub raw_evals : (c : ℕ) → (raw c).evals ≤ 96 * c
  unfolding raw_links fold linked_to
  raw_evals zero = omega arith
  raw_evals (suc c) = omega (arith, raw_evals c, pair_evals s diag a (cluster c))

  -- what is told of them is small
  pub told_few : (c : ℕ) {m : RowMade} → m ≡ links_made (raw c) → (m.links ≤ c) × (m.evals ≤ 96 * c)
  unfolding links_made
  told_few c p = (rw p (raw_few c).0, rw p (raw_evals c))

  -- the links are told and stored as `raw_links` starts and goes on
  pub told_none : (link₀ : List ℕ) (weight₀ : List Float) {m : RowMade} → m.links ≡ 0 → m.sum ≡ 0f → m.evals ≡ 0
      → (m ≡ links_made (raw 0)) × (link₀ ≡ sets link₀ 0 (raw 0).cluster) × (weight₀ ≡ sets weight₀ 0 (raw 0).weight)
  unfolding links_made raw_links row_sum fold
  told_none link₀ weight₀ p q r = (none_made p q r, refl, refl)

  pub told_more : (c : ℕ) (link₀ : List ℕ) (weight₀ : List Float) {m n : RowMade} {link link' : List ℕ} {weight weight' : List Float} {pair : Pair}
      → m ≡ links_made (raw c) → link ≡ sets link₀ 0 (raw c).cluster → weight ≡ sets weight₀ 0 (raw c).weight
      → pair ≡ pair_of s diag a (cluster c) → n ≡ pair_made m pair
      → link' ≡ sets link m.links (cluster_if pair.weight c) → weight' ≡ sets weight m.links (weight_if pair.weight)
      → (n ≡ links_made (raw (c + 1))) × (link' ≡ sets link₀ 0 (raw (c + 1)).cluster) × (weight' ≡ sets weight₀ 0 (raw (c + 1)).weight)
  unfolding links_made linked_to
  told_more c link₀ weight₀ p k w e n l v =
      let few = raw_few c in (
        n ∙ rw (p, e, raw_more c) (sym (added_by (raw c) c (pair_of s diag a (cluster c)) _ refl)),
        l ∙ rw (p, k, e, raw_more c) (sym (sets_front_append link₀ (raw c).cluster _)),
        v ∙ rw (p, w, e, raw_more c, sym few.1) (sym (sets_front_append weight₀ (raw c).weight _)),
      )

-- a row from its raw links, its target and its scaling
module _ (s : Scene) (diag : Float) (a : Receiver) (cluster : ℕ → Cluster) (nc : ℕ) where
  abbrev row : Row
  row = row_of s diag a cluster nc

  -- each weight is one of the raw links'
  pub row_few : (length row.cluster ≤ nc) × (length row.weight ≡ length row.cluster)
  unfolding row_of
  row_few =
      let h = raw_few s diag a cluster nc in
      (h.0, length_calibrated _ _ (raw_links s diag a cluster nc).weight ∙ h.1)

  pub row_evals : row.evals ≤ 96 * nc + 2112
  unfolding row_of openness
  row_evals = omega (arith, raw_evals s diag a cluster nc, closure_evals s a.p a.n (diag *f of_bits binary32 0x4000_0000))

  -- what is told of a row, and how it stands in the scratch
  pub row_told : (weight₀ : List Float) {m : RowMade} {weight weight' : List Float} {above : Closure} {sum : Float}
      → nc ≤ length weight₀ → m ≡ links_made (raw_links s diag a cluster nc) → weight ≡ sets weight₀ 0 (raw_links s diag a cluster nc).weight
      → above ≡ openness s diag a → sum ≡ calibrated_sum (target_of above.sky) m.sum
      → weight' ≡ sets weight 0 (calibrated (target_of above.sky) m.sum (take m.links weight))
      → (◌≡◌ {A = RowMade} (record { links = m.links; sum = lesser sum 1f; evals = m.evals + above.evals }) (row_made row)) × (weight' ≡ sets weight₀ 0 row.weight)
  unfolding row_of row_made links_made
  row_told weight₀ h p w e q v =
      let few = raw_few s diag a cluster nc in
      let ws = (raw_links s diag a cluster nc).weight in
      let target = target_of (openness s diag a).sky in
      let front : take (length (raw_links s diag a cluster nc).cluster) (sets weight₀ 0 ws) ≡ ws = take_sets weight₀ ws _ few.1 (omega (arith, few.0)) in (
        rw (q, p, e),
        rw (v, p, e, w, front) (sets_over weight₀ ws (calibrated target (row_sum ws) ws) (length_calibrated target (row_sum ws) ws) (omega (arith, few))),
      )
