-- Rows built one after the other: what is told of them, what is stored, and the first that does not fit. Assumes nothing.
use mathlib.Core.Bool.{Bool, true, false, cond, ◌&&◌}
use mathlib.Core.List.{List, ◌++◌}
use mathlib.Core.Path.{◌≡◌, refl, sym, ap, ◌∙◌}
use mathlib.Core.Logic.{◌⊎◌, inl, inr}
use Prim.Native.Nat.{ℕ, zero, suc, ◌+◌, ◌*◌, ◌≤◌, ◌<◌, min}
use native.Mathlib.Nat.{eq-or-lt_of_le, suc-mul, min-le_left, min-le_right}
use native.Mathlib.Numerals.{add-one}
use native.Mathlib.Omega.{arith}
use borrow.Author.Tests.{le-leb, lt-leb, eq-eqb, ne_eqb, eqb-true}
use lib.Dec.{eqb, leb}
use lib.Ieee.{Float}
use lib.ListN.{length, take, drop, set, length-append}
use lib.Seq.{sets}
use Rattle.std.specs.Prelude.{Result, Ok, Err}
use Rattle.float.specs.Arithmetic.{◌+f◌, 0f}
use Rattle.vector.specs.Flat.{rows, filled}
use Rattle.vector.specs.Fold.{fold}
use Rattle.vector.proofs.Replaced.{filled_none, filled_put}
use Rattle.vector.proofs.Stored.{sets_front_append, drop_sets, take_sets, rows_more}
use Rattle.accept.specs.Limits.{max_clusters, max_links}
use Rattle.field.proofs.Chosen.{chosen}
use Rattle.formfactor.specs.declared.BuildError.{BuildError}
use Rattle.formfactor.specs.declared.BuildError.TheVariants.{Full}
use Rattle.formfactor.specs.declared.Built.{Built}
use Rattle.formfactor.specs.declared.Interior.{Interior}
use Rattle.formfactor.specs.declared.RowMade.{RowMade}
use Rattle.formfactor.specs.declared.RowsMade.{RowsMade}
use Rattle.formfactor.specs.Lent.{Setting, receiver_at, cluster_at}
use Rattle.formfactor.specs.Linking.{Row}
use Rattle.formfactor.specs.Building.{row_at, clusters_of, weights_of, start_of, counted, interior, evals_of, passing, capacity, fitting}
use Rattle.formfactor.specs.Answers.{built_answer, built}
use Rattle.formfactor.specs.Needs.{most_evals, row_made, rows_made, with_links, with_row, built_of}
use Rattle.formfactor.proofs.Linked.{row_few, row_evals}

-- ---- tests that pass up to the first that fails

pub passing_more : (test : ℕ → Bool) (i : ℕ) → passing test i ≡ i → test i ≡ true → passing test (i + 1) ≡ i + 1
unfolding passing
passing_more test i p e = rw (add-one i, p, eq-eqb i i refl, e)

still : (test : ℕ → Bool) (i n k : ℕ) → k ≡ i → (i ≡ n → test n ≡ false) → cond (eqb k n && test n) (suc n) k ≡ i
still test i n k p h = by_cases _ refl
  where
    by_cases : (b : Bool) → eqb k n ≡ b → cond (eqb k n && test n) (suc n) k ≡ i
    by_cases true e = rw (e, h (sym p ∙ eqb-true k n e)) p
    by_cases false e = rw e p

pub passing_stops : (test : ℕ → Bool) (i n : ℕ) → passing test i ≡ i → test i ≡ false → i < n → passing test n ≡ i
unfolding passing
passing_stops test i zero p e h = absurd (omega arith)
passing_stops test i (suc n) p e h = still test i n (passing test n) (by_cases (passing_stops test i n p e) (eq-or-lt_of_le {n = i} {m = n} (omega arith))) (λ q. rw q at e)
  where
    by_cases : (i < n → passing test n ≡ i) → (i ≡ n) ⊎ (i < n) → passing test n ≡ i
    by_cases on (inl q) = (rw q at p) ∙ sym q
    by_cases on (inr k) = on k

-- ---- one row more

module _ (t : Setting) where
  pub clusters_more : (i : ℕ) → clusters_of t (i + 1) ≡ clusters_of t i ++ (row_at t i).cluster
  unfolding clusters_of
  clusters_more i = rows_more (λ k. (row_at t k).cluster) i

  pub weights_more : (i : ℕ) → weights_of t (i + 1) ≡ weights_of t i ++ (row_at t i).weight
  unfolding weights_of
  weights_more i = rows_more (λ k. (row_at t k).weight) i

  pub start_more : (i : ℕ) → start_of t (i + 1) ≡ start_of t i + length (row_at t i).cluster
  start_more i = ap length (clusters_more i) ∙ length-append (clusters_of t i) (row_at t i).cluster

  -- each row has as many weights as clusters, nc at most, and a bounded number of evaluations
  pub row_at_few : (i : ℕ) → (length (row_at t i).cluster ≤ t.emitters.nc) × (length (row_at t i).weight ≡ length (row_at t i).cluster)
  unfolding row_at
  row_at_few i = row_few t.scene t.diag (receiver_at t.p t.normals i) (cluster_at t.emitters) t.emitters.nc

  pub row_at_evals : (i : ℕ) → (row_at t i).evals ≤ 96 * t.emitters.nc + 2112
  unfolding row_at
  row_at_evals i = row_evals t.scene t.diag (receiver_at t.p t.normals i) (cluster_at t.emitters) t.emitters.nc

  pub as_many : (i : ℕ) → length (weights_of t i) ≡ start_of t i
  unfolding weights_of clusters_of rows
  as_many zero = refl
  as_many (suc i) =
      length-append (rows (λ k. (row_at t k).weight) i) (row_at t i).weight
      ∙ rw (as_many i, (row_at_few i).1) (sym (length-append (rows (λ k. (row_at t k).cluster) i) (row_at t i).cluster))

  -- what is told of the rows
  pub told_start : {links rows evals : ℕ} {sum : Float} → links ≡ 0 → rows ≡ 0 → sum ≡ 0f → evals ≡ 0
      → ◌≡◌ {A = RowsMade} (record { links = links; interior = record { rows = rows; sum = sum }; evals = evals }) (rows_made t 0)
  unfolding rows_made clusters_of rows interior evals_of fold
  told_start p q r s = rw (p, q, r, s)

  pub told_on : (i : ℕ) {m r : RowsMade} {row : RowMade} → m ≡ rows_made t i → row ≡ row_made (row_at t i) → r ≡ with_row m row → r ≡ rows_made t (i + 1)
  unfolding rows_made row_made with_row with_links interior counted evals_of fold
  told_on i p q e = e ∙ rw (p, q, start_more i, add-one i)

  -- each row counts once at most, and takes a bounded number of evaluations
  counted_few : (m : Interior) (row : Row) (k : ℕ) → m.rows ≤ k → (counted m row).rows ≤ suc k
  unfolding counted
  counted_few m row k h =
      chosen (λ (x : Interior). x.rows ≤ suc k) (eqb (length row.cluster) 0) m (record { rows = m.rows + 1; sum = m.sum +f row.sum }) (omega arith) (omega arith)

  pub interior_few : (i : ℕ) → (interior t i).rows ≤ i
  unfolding interior fold
  interior_few zero = omega arith
  interior_few (suc i) = counted_few (interior t i) (row_at t i) i (interior_few i)

  pub evals_most : (i : ℕ) → evals_of t i ≤ i * (96 * t.emitters.nc + 2112)
  unfolding evals_of fold
  evals_most zero = omega arith
  evals_most (suc i) = rw (suc-mul i (96 * t.emitters.nc + 2112)) (omega (arith, evals_most i, row_at_evals i))

  pub evals_few : t.emitters.nc ≤ max_clusters → (i : ℕ) → evals_of t i ≤ most_evals * i
  unfolding evals_of fold
  evals_few h zero = omega arith
  evals_few h (suc i) = omega (arith, evals_few h i, row_at_evals i)

  pub told_few : t.emitters.nc ≤ max_clusters → (i : ℕ) {m : RowsMade} → m ≡ rows_made t i → (m.interior.rows ≤ i) × (m.evals ≤ most_evals * i)
  unfolding rows_made
  told_few h i p = (rw p (interior_few i), rw p (evals_few h i))

  -- a row stands at the front of the scratch, and the rest of it is as it was
  pub links_front : (i : ℕ) (link : List ℕ) {link' : List ℕ} → link' ≡ sets link 0 (row_at t i).cluster → drop t.emitters.nc link' ≡ drop t.emitters.nc link
  links_front i link p = rw p (drop_sets link 0 (row_at t i).cluster t.emitters.nc (omega (arith, row_at_few i)))

  pub weights_front : (i : ℕ) (weight : List Float) {weight' : List Float} → weight' ≡ sets weight 0 (row_at t i).weight → drop t.emitters.nc weight' ≡ drop t.emitters.nc weight
  weights_front i weight p = rw p (drop_sets weight 0 (row_at t i).weight t.emitters.nc (omega (arith, row_at_few i)))

-- how many links two slices take is no more than either has, nor than the limit
pub capacity_most : (a b : ℕ) {room : ℕ} → room ≡ capacity a b → (room ≤ a) × (room ≤ b) × (room ≤ max_links)
capacity_most a b p = (omega (arith, p, min-le_left (min a b) max_links, min-le_left a b), omega (arith, p, min-le_left (min a b) max_links, min-le_right a b), omega (arith, p, min-le_right (min a b) max_links))

-- ---- the rows so far

-- whether the links of row i, after those of the rows before it, fit
abbrev pub fit : Setting → ℕ → ℕ → Bool
fit t room i = leb (start_of t (suc i)) room

-- i rows are built: what is told of them, what starts and links hold, and that all of them fitted
pub record SoFar (t : Setting) (room : ℕ) (starts₀ cluster₀ : List ℕ) (weight₀ : List Float) (starts cluster : List ℕ) (weight : List Float) (m : RowsMade) (i : ℕ) : Type 0 where
  pub told : m ≡ rows_made t i
  pub begun : starts ≡ filled (start_of t) i starts₀
  pub clusters : cluster ≡ sets cluster₀ 0 (clusters_of t i)
  pub weights : weight ≡ sets weight₀ 0 (weights_of t i)
  pub inside : start_of t i ≤ room
  pub passed : passing (fit t room) i ≡ i

-- so far they have no more links than there is room for
pub links_inside : {t : Setting} {room i : ℕ} {starts₀ cluster₀ starts cluster : List ℕ} {weight₀ weight : List Float} {m : RowsMade}
    → SoFar t room starts₀ cluster₀ weight₀ starts cluster weight m i → m.links ≤ room
unfolding rows_made
links_inside {t} {i = i} {m = m} s = let e : m.links ≡ start_of t i = rw s.told in omega (arith, s.inside, e)

module _ (t : Setting) (room : ℕ) (starts₀ cluster₀ : List ℕ) (weight₀ : List Float) where
  abbrev Now : List ℕ → List ℕ → List Float → RowsMade → ℕ → Type 0
  Now = SoFar t room starts₀ cluster₀ weight₀

  pub none_yet : {m : RowsMade} → m.links ≡ 0 → m.interior.rows ≡ 0 → m.interior.sum ≡ 0f → m.evals ≡ 0 → Now starts₀ cluster₀ weight₀ m 0
  unfolding clusters_of weights_of rows passing
  none_yet p q r s =
      record {
        told = told_start t p q r s;
        begun = filled_none (start_of t) starts₀;
        clusters = refl;
        weights = refl;
        inside = omega arith;
        passed = refl;
      }

  links_told : (i : ℕ) {row : RowMade} → row ≡ row_made (row_at t i) → row.links ≡ length (row_at t i).cluster
  unfolding row_made
  links_told i q = rw q

  start_told : (i : ℕ) {m : RowsMade} → m ≡ rows_made t i → m.links ≡ start_of t i
  unfolding rows_made
  start_told i p = rw p

  -- a row that fits goes behind the others
  pub one_more_row : (i : ℕ) (link : List ℕ) (scratch : List Float) {starts cluster cluster' link' : List ℕ} {weight weight' scratch' : List Float} {m m' : RowsMade} {row : RowMade}
      → Now starts cluster weight m i → i < length starts₀ → t.emitters.nc ≤ length link → t.emitters.nc ≤ length scratch
      → row ≡ row_made (row_at t i) → link' ≡ sets link 0 (row_at t i).cluster → scratch' ≡ sets scratch 0 (row_at t i).weight
      → m.links + row.links ≤ room
      → cluster' ≡ sets cluster m.links (take row.links link') → weight' ≡ sets weight m.links (take row.links scratch')
      → m' ≡ with_row m row
      → Now (set starts i m.links) cluster' weight' m' (i + 1)
  one_more_row i link scratch s h lk sc q a b f c w e =
      let few = row_at_few t i in
      let k = links_told i q in
      let st = start_told i s.told in
      let on = start_more t i in
      let x = take_sets link (row_at t i).cluster _ refl (omega (arith, few.0)) in
      let y = take_sets scratch (row_at t i).weight _ few.1 (omega (arith, few.0)) in
      record {
        told = told_on t i s.told q e;
        begun = filled_put (start_of t) i starts₀ s.begun h st refl;
        clusters = c ∙ rw (s.clusters, a, k, x, st, clusters_more t i) (sym (sets_front_append cluster₀ (clusters_of t i) (row_at t i).cluster));
        weights = w ∙ rw (s.weights, b, k, y, st, weights_more t i, sym (as_many t i)) (sym (sets_front_append weight₀ (weights_of t i) (row_at t i).weight));
        inside = omega (arith, on, k, st, f);
        passed = passing_more (fit t room) i s.passed (rw (sym (add-one i)) (le-leb (start_of t (i + 1)) room (omega (arith, on, k, st, f))));
      }

  -- the first that does not fit, and the last
  module _ (e : room ≡ capacity (length cluster₀) (length weight₀)) where
    pub stopped : (i : ℕ) {starts cluster : List ℕ} {weight : List Float} {m : RowsMade} {row : RowMade} → Now starts cluster weight m i → i < t.n → i < length starts₀
        → row ≡ row_made (row_at t i) → room < m.links + row.links
        → ◌≡◌ {A = Result Built BuildError × List ℕ × List ℕ × List Float} (Err (Full i), set starts i m.links, cluster, weight) (built t starts₀ cluster₀ weight₀)
    unfolding built built_answer fitting
    stopped i s h l q f =
        let k = links_told i q in
        let st = start_told i s.told in
        let on = start_more t i in
        let r = passing_stops (fit t room) i t.n s.passed (rw (sym (add-one i)) (lt-leb (start_of t (i + 1)) room (omega (arith, on, k, st, f)))) h in
        rw (sym e, r, ne_eqb i t.n (λ z. omega (arith, z, h)), filled_put (start_of t) i starts₀ s.begun l st refl, s.clusters, s.weights)

    pub all_built : {starts cluster : List ℕ} {weight : List Float} {m : RowsMade} → Now starts cluster weight m t.n → t.n < length starts₀
        → ◌≡◌ {A = Result Built BuildError × List ℕ × List ℕ × List Float} (Ok (built_of m), set starts t.n m.links, cluster, weight) (built t starts₀ cluster₀ weight₀)
    unfolding built built_answer fitting built_of rows_made
    all_built s l = rw (sym e, s.passed, eq-eqb t.n t.n refl, filled_put (start_of t) t.n starts₀ s.begun l (start_told t.n s.told) refl, s.told, s.clusters, s.weights)
