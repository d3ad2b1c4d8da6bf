-- Links strictly ascend in each row, and what `build` leaves passes the tests that a solve makes of its rows. Assumes nothing.
use mathlib.Core.Bool.{true}
use mathlib.Core.List.{List, [], ◌∷◌, ◌++◌, append-nil}
use mathlib.Core.Logic.{◌⊎◌, inl, inr}
use mathlib.Core.Path.{◌≡◌, refl, sym, ap, ◌∙◌}
use Prim.Native.Nat.{ℕ, zero, suc, ◌+◌, ◌-◌, ◌≤◌, ◌<◌}
use native.Mathlib.Nat.{add-zero, eq-or-lt_of_le}
use native.Mathlib.Omega.{arith}
use borrow.Author.Tests.{lt-ltb, le-leb, eq-eqb}
use lib.Dec.{ltb, leb}
use lib.ListN.{length, length-append, get_or-append}
use lib.Ieee.{Float}
use lib.Seq.{sets, slice, length-sets, get_or_at, get_or-take, get_or-append-add}
use Rattle.std.specs.Prelude.{Option, Some, None}
use Rattle.vector.specs.Flat.{rows}
use Rattle.vector.specs.Fold.{fold}
use Rattle.vector.proofs.Replaced.{length_filled, at_filled}
use Rattle.vector.proofs.Stored.{slice_at, rows_slice, take_sets}
use Rattle.accept.specs.Every.{every}
use Rattle.accept.specs.Tables.{number_at, all_below, monotone, ascends, all_ascend, numbers_below, links_ascend}
use Rattle.accept.proofs.Every.{every_all}
use Rattle.order.proofs.Ranks.{lt_or_le}
use Rattle.tables.specs.Tables.{Scene}
use Rattle.clusters.specs.declared.Cluster.{Cluster}
use Rattle.links.specs.declared.Receiver.{Receiver}
use Rattle.links.specs.declared.Pair.{Pair}
use Rattle.links.specs.Pairs.{pair_of}
use Rattle.formfactor.specs.declared.Built.{Built}
use Rattle.formfactor.specs.Lent.{Setting, receiver_at, cluster_at}
use Rattle.formfactor.specs.Linking.{Links, linked_to, raw_links, row_of}
use Rattle.formfactor.specs.Building.{row_at, clusters_of, start_of}
use Rattle.formfactor.specs.Parts.{DoneCall, starts_left, clusters_left}
use Rattle.formfactor.proofs.Parted.{left}
use Rattle.formfactor.proofs.Rowwise.{start_more}

-- ---- one row

-- numbers that strictly ascend, all below a bound
pub record Rising (xs : List ℕ) (bound : ℕ) : Type 0 where
  pub below : (j : ℕ) → j < length xs → number_at xs j < bound
  pub rising : (j : ℕ) → j + 1 < length xs → number_at xs j < number_at xs (j + 1)

wider : (xs : List ℕ) (c : ℕ) → Rising xs c → Rising xs (suc c)
wider xs c r = record { below = λ j h. omega (arith, r.below j h); rising = r.rising }

-- with the bound itself at the end
snoc : (xs : List ℕ) (c : ℕ) → Rising xs c → Rising (xs ++ (c ∷ [])) (suc c)
snoc xs c r = record { below = below; rising = λ j h. rising j (eq-or-lt_of_le {n = j + 1} {m = length xs} (omega (arith, size, h))) }
  where
    size : length (xs ++ (c ∷ [])) ≡ length xs + 1
    size = length-append xs (c ∷ [])

    old : (j : ℕ) → j < length xs → number_at (xs ++ (c ∷ [])) j ≡ number_at xs j
    old j h = get_or-append xs (c ∷ []) 0 j h

    last : (j : ℕ) → j ≡ length xs → number_at (xs ++ (c ∷ [])) j ≡ c
    last j e = get_or_at xs c [] 0 j (sym e)

    below_by : (j : ℕ) → (j ≡ length xs) ⊎ (j < length xs) → number_at (xs ++ (c ∷ [])) j < suc c
    below_by j (inl e) = omega (arith, last j e)
    below_by j (inr h) = omega (arith, old j h, r.below j h)

    below : (j : ℕ) → j < length (xs ++ (c ∷ [])) → number_at (xs ++ (c ∷ [])) j < suc c
    below j h = below_by j (eq-or-lt_of_le {n = j} {m = length xs} (omega (arith, size, h)))

    rising : (j : ℕ) → (j + 1 ≡ length xs) ⊎ (j + 1 < length xs) → number_at (xs ++ (c ∷ [])) j < number_at (xs ++ (c ∷ [])) (j + 1)
    rising j (inl e) = omega (arith, last (j + 1) e, old j (omega (arith, e)), r.below j (omega (arith, e)))
    rising j (inr h) = omega (arith, old j (omega arith), old (j + 1) h, r.rising j h)

one_link : (l : Links) (c : ℕ) (pair : Pair) (w : Option Float) → pair.weight ≡ w → Rising l.cluster c → Rising (linked_to l c pair).cluster (suc c)
unfolding linked_to
one_link l c pair (Some w) e r = rw e (snoc l.cluster c r)
one_link l c pair None e r = rw (e, append-nil l.cluster) (wider l.cluster c r)

-- the raw links to the first m clusters ascend, and are below m
pub links_rise : (s : Scene) (diag : Float) (a : Receiver) (cluster : ℕ → Cluster) (m : ℕ) → Rising (raw_links s diag a cluster m).cluster m
unfolding raw_links fold
links_rise s diag a cluster zero = record { below = λ j h. absurd (omega arith); rising = λ j h. absurd (omega arith) }
links_rise s diag a cluster (suc m) = one_link (raw_links s diag a cluster m) m (pair_of s diag a (cluster m)) _ refl (links_rise s diag a cluster m)

-- so the links of every row
pub row_rises : (t : Setting) (i : ℕ) → Rising (row_at t i).cluster t.emitters.nc
unfolding row_at row_of
row_rises t i = links_rise t.scene t.diag (receiver_at t.p t.normals i) (cluster_at t.emitters) t.emitters.nc

-- ---- all rows

-- each number of rows that follow one another is below the bound that each row keeps
flat_below : (f : ℕ → List ℕ) (bound : ℕ) → ((i j : ℕ) → j < length (f i) → number_at (f i) j < bound) → (n k : ℕ) → k < length (rows f n) → number_at (rows f n) k < bound
unfolding rows
flat_below f bound h zero k l = absurd (omega arith)
flat_below f bound h (suc n) k l = by_cases (flat_below f bound h n k) (lt_or_le k (length (rows f n)))
  where
    by_cases : (k < length (rows f n) → number_at (rows f n) k < bound) → (k < length (rows f n)) ⊎ (length (rows f n) ≤ k) → number_at (rows f n ++ f n) k < bound
    by_cases before (inl g) = rw (get_or-append (rows f n) (f n) 0 k g) (before g)
    by_cases before (inr g) =
        let e : k ≡ length (rows f n) + (k - length (rows f n)) = omega arith in
        let p : number_at (rows f n ++ f n) k ≡ number_at (f n) (k - length (rows f n)) = ap (number_at (rows f n ++ f n)) e ∙ get_or-append-add (rows f n) (f n) (k - length (rows f n)) 0 in
        rw p (h n (k - length (rows f n)) (omega (arith, length-append (rows f n) (f n), l)))

module _ (t : Setting) (c : DoneCall t) where
  abbrev S : List ℕ
  S = starts_left c

  abbrev C : List ℕ
  C = clusters_left c

  links : c.told.links ≡ start_of t t.n
  links = ap (λ (b : Built). b.links) (left t c).told_as

  start_at : (i : ℕ) → i ≤ t.n → number_at S i ≡ start_of t i
  start_at i h = rw (left t c).starts_as (at_filled (start_of t) (t.n + 1) i c.starts 0 (omega arith))

  held : length C ≡ length c.cluster
  held = rw (left t c).clusters_as (length-sets c.cluster 0 (clusters_of t t.n))

  -- the links of row i, and link j of it
  row_slice : (i : ℕ) → i < t.n → slice (start_of t i) (start_of t (i + 1)) C ≡ (row_at t i).cluster
  unfolding clusters_of rows
  row_slice i h =
      rw (left t c).clusters_as
      (rows_slice (λ k. (row_at t k).cluster) i 1 t.n c.cluster (omega arith) (left t c).clusters_hold_lem ∙ ap (λ (k : ℕ). (row_at t k).cluster) (add-zero i))

  link_at : (i j : ℕ) → i < t.n → j < length (row_at t i).cluster → number_at C (start_of t i + j) ≡ number_at (row_at t i).cluster j
  link_at i j h k =
      sym (slice_at (start_of t i) (start_of t (i + 1)) j C 0 (omega (arith, start_more t i)))
      ∙ ap (λ (l : List ℕ). number_at l j) (row_slice i h)

  rises : (i : ℕ) → i < t.n → ascends (number_at C) (number_at S i) (number_at S (i + 1)) ≡ true
  unfolding ascends
  rises i h = rw (start_at i (omega arith), start_at (i + 1) (omega arith)) (every_all _ _ next)
    where
      next : (j : ℕ) → j < start_of t (i + 1) - start_of t i - 1 → ltb (number_at C (start_of t i + j)) (number_at C (start_of t i + j + 1)) ≡ true
      next j k =
          let e : start_of t i + j + 1 ≡ start_of t i + (j + 1) = omega arith in
          let on = start_more t i in
          let x = link_at i j h (omega (arith, on)) in
          let y = ap (number_at C) e ∙ link_at i (j + 1) h (omega (arith, on)) in
          lt-ltb (number_at C (start_of t i + j)) (number_at C (start_of t i + j + 1)) (omega (arith, x, y, (row_rises t i).rising j (omega (arith, on))))

  -- starts that rise from 0 to the number of links
  rise_from : monotone (number_at S) t.n c.told.links ≡ true
  unfolding monotone clusters_of rows
  rise_from =
      let up : every (λ i. leb (number_at S i) (number_at S (i + 1))) t.n ≡ true =
      every_all _ _ (λ i h. le-leb (number_at S i) (number_at S (i + 1)) (omega (arith, start_at i (omega arith), start_at (i + 1) (omega arith), start_more t i))) in
      rw (eq-eqb (number_at S 0) 0 (start_at 0 (omega arith)), up, eq-eqb (number_at S t.n) c.told.links (start_at t.n (omega arith) ∙ sym links))

  -- each link is one of the clusters
  each_below : (k : ℕ) → k < c.told.links → number_at C k < t.emitters.nc
  unfolding clusters_of
  each_below k h =
      let g : k < start_of t t.n = omega (arith, links) in
      let front = ap (λ (l : List ℕ). number_at l k) (take_sets c.cluster (clusters_of t t.n) (start_of t t.n) refl (left t c).clusters_hold_lem) in
      let old = sym (get_or-take (start_of t t.n) (sets c.cluster 0 (clusters_of t t.n)) k 0 g) ∙ front in
      rw ((left t c).clusters_as, old) (flat_below (λ i. (row_at t i).cluster) t.emitters.nc (λ i j l. (row_rises t i).below j l) t.n k g)

  -- refusal 7 of a solve: its rows start from 0, never fall and end at the number of links, links strictly ascend in each, and each is a cluster
  pub rows_accepted : (links_ascend S t.n C c.told.links ≡ true) × (numbers_below C c.told.links t.emitters.nc ≡ true)
  unfolding all_ascend all_below
  rows_accepted =
      let w = left t c in
      let n : ltb t.n (length S) ≡ true = lt-ltb t.n (length S) (omega (arith, ap length w.starts_as, length_filled (start_of t) (t.n + 1) c.starts (omega (arith, w.starts_hold)), w.starts_hold)) in
      let fits : leb c.told.links (length C) ≡ true = le-leb c.told.links (length C) (omega (arith, links, held, w.clusters_hold_lem)) in
      let up = every_all (λ i. ascends (number_at C) (number_at S i) (number_at S (i + 1))) t.n rises in
      let low = every_all (λ k. ltb (number_at C k) t.emitters.nc) c.told.links (λ k h. lt-ltb _ _ (each_below k h)) in
      (rw (n, rise_from, fits, up), rw (fits, low))
