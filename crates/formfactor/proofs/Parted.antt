-- The laws of rows that were built: what a call that is not refused left, rows of a part of the surfels, and evaluations that add up and are bounded. Assumes nothing.
use mathlib.Core.Bool.{Bool, true, false, ◌&&◌, true≢false}
use mathlib.Core.List.{List}
use mathlib.Core.Path.{◌≡◌, refl, sym, ap, ◌∙◌}
use Prim.Native.Nat.{ℕ, zero, suc, ◌+◌, ◌*◌, ◌≤◌, ◌<◌}
use native.Mathlib.Numerals.{add-one}
use native.Mathlib.Omega.{arith}
use borrow.Author.Tests.{eqb-true, leb-true}
use lib.Dec.{eqb}
use lib.Ieee.{Float}
use lib.ListN.{length, take, drop, length-append}
use lib.Seq.{sets, slice}
use Rattle.std.specs.Prelude.{Result, Ok, Err}
use Rattle.vector.specs.Flat.{vec_at, rows, filled}
use Rattle.vector.specs.Fold.{fold}
use Rattle.vector.proofs.Replaced.{at_cut, at_drop, at_filled, rows_same}
use Rattle.vector.proofs.Sums.{fold_same}
use Rattle.vector.proofs.Stored.{take_sets, rows_split, rows_slice}
use Rattle.accept.specs.declared.refusal.Refusal.{Refusal}
use Rattle.accept.specs.Tables.{number_at}
use Rattle.field.proofs.Chosen.{chosen}
use Rattle.order.specs.Order.{sums}
use Rattle.order.proofs.Filled.{sums_split}
use Rattle.formfactor.specs.declared.BuildError.{BuildError}
use Rattle.formfactor.specs.declared.Built.{Built}
use Rattle.formfactor.specs.Lent.{Setting}
use Rattle.formfactor.specs.Linking.{Row}
use Rattle.formfactor.specs.Building.{row_at, clusters_of, weights_of, start_of, interior, mean_of, evals_of, passing, capacity, fitting}
use Rattle.formfactor.specs.Checks.{check}
use Rattle.formfactor.specs.Answers.{built_answer, built, build_answer}
use Rattle.formfactor.specs.Parts.{PartOf, cut_out, DoneCall, starts_left, clusters_left, weights_left, RowsOfPart, Piece}
use Rattle.formfactor.proofs.Refusing.{started}
use Rattle.formfactor.proofs.Rowwise.{fit, capacity_most, as_many, evals_most}

-- ---- what a call that is not refused left

-- an error is no answer
err_ok : {e : BuildError} {b : Built} → ◌≡◌ {A = Result Built BuildError} (Err e) (Ok b) → ⊥
err_ok p = cc

-- what is told by an answer, or what is given where it tells nothing
abbrev told_by : Result Built BuildError → Built → Built
told_by (Err e) b = b
told_by (Ok told) b = told

-- all of n tests that pass are n, and so the last of them passed
passing-le : (test : ℕ → Bool) (n : ℕ) → passing test n ≤ n
unfolding passing
passing-le test zero = omega arith
passing-le test (suc n) =
    chosen (λ (k : ℕ). k ≤ suc n) (eqb (passing test n) n && test n) (suc n) (passing test n) (omega arith) (omega (arith, passing-le test n))

second : (a b : Bool) → (a && b) ≡ true → b ≡ true
second true b e = e
second false b e = absurd (true≢false (sym e))

passed_last : (test : ℕ → Bool) (n : ℕ) → passing test (suc n) ≡ suc n → test n ≡ true
unfolding passing
passed_last test n p = by_cases _ refl
  where
    by_cases : (b : Bool) → (eqb (passing test n) n && test n) ≡ b → test n ≡ true
    by_cases true e = second (eqb (passing test n) n) (test n) e
    by_cases false e = absurd (omega (arith, passing-le test n, (rw e at p)))

pub record Left (t : Setting) (c : DoneCall t) : Type 0 where
  pub told_as : c.told ≡ record { links = start_of t t.n; mean_row_sum = mean_of (interior t t.n); evals = evals_of t t.n }
  pub starts_as : starts_left c ≡ filled (start_of t) (t.n + 1) c.starts
  pub clusters_as : clusters_left c ≡ sets c.cluster 0 (clusters_of t t.n)
  pub weights_as : weights_left c ≡ sets c.weight 0 (weights_of t t.n)
  pub starts_hold : t.n < length c.starts
  pub clusters_hold_lem : start_of t t.n ≤ length c.cluster
  pub weights_hold : start_of t t.n ≤ length c.weight

-- all rows fitted
fitted : (t : Setting) (room n : ℕ) → passing (fit t room) n ≡ n → start_of t n ≤ room
unfolding clusters_of rows
fitted t room zero p = omega arith
fitted t room (suc n) p = leb-true _ _ (passed_last (fit t room) n p)

abbrev Outcome : Type 0
Outcome = Result Built BuildError × List ℕ × List ℕ × List Float

module _ (t : Setting) (c : DoneCall t) where
  abbrev checked : Result Unit Refusal
  checked = check c.lo c.hi t (length c.starts) c.link c.scratch

  abbrev room : ℕ
  room = capacity (length c.cluster) (length c.weight)

  told_built : (b : Built) → ◌≡◌ {A = Result Built BuildError} (Ok b) (Ok c.told) → c.told ≡ b
  told_built b e = sym (ap (λ (a : Result Built BuildError). told_by a b) e)

  by_rows : (b : Bool) → eqb (fitting t room) t.n ≡ b → checked ≡ Ok tt → Left t c
  unfolding build_answer built built_answer fitting
  by_rows true e z =
      let all : fitting t room ≡ t.n = eqb-true _ _ e in
      let most = capacity_most (length c.cluster) (length c.weight) refl in
      let w : build_answer c.lo c.hi t c.starts c.cluster c.weight c.link c.scratch ≡ built t c.starts c.cluster c.weight = rw z in
      let inside = fitted t room t.n all in
      record {
        told_as = told_built _ (rw (z, e) at c.done);
        starts_as = ap (λ (x : Outcome). x.1) w ∙ ap (λ (r : ℕ). filled (start_of t) (r + 1) c.starts) all;
        clusters_as = ap (λ (x : Outcome). x.2) w ∙ ap (λ (r : ℕ). sets c.cluster 0 (clusters_of t r)) all;
        weights_as = ap (λ (x : Outcome). x.3) w ∙ ap (λ (r : ℕ). sets c.weight 0 (weights_of t r)) all;
        starts_hold = started c.lo c.hi t (length c.starts) c.link c.scratch z;
        clusters_hold_lem = omega (arith, inside, most.0);
        weights_hold = omega (arith, inside, most.1);
      }
  by_rows false e z = absurd (err_ok (rw (z, e) at c.done))

  by_check : (r : Result Unit Refusal) → checked ≡ r → Left t c
  unfolding build_answer
  by_check (Ok u) z = by_rows _ refl z
  by_check (Err r) z = absurd (err_ok (rw z at c.done))

  pub left : Left t c
  left = by_check _ refl

-- ---- rows of a part of the surfels

-- fronts and slices with the same ends of the same list
same-take : {A : Type 0} {j k : ℕ} {l m : List A} → j ≡ k → l ≡ m → take j l ≡ take k m
same-take {A} {k = k} {l = l} p q = ap (λ (x : ℕ). take x l) p ∙ ap (take k) q

same_slice : {A : Type 0} {i j x y : ℕ} {l m : List A} → i ≡ x → j ≡ y → l ≡ m → slice i j l ≡ slice x y m
same_slice {A} {j = j} {x = x} {y = y} {l = l} p q r = ap (λ (k : ℕ). slice k j l) p ∙ ap (λ (k : ℕ). slice x k l) q ∙ ap (slice x y) r

-- slices of exactly the floats of m surfels are a part
pub cut_part : (t : Setting) (a m : ℕ) → a + m ≤ t.n → PartOf t a (cut_out t a m)
cut_part t a m h =
    let place : (l : List Float) (i : ℕ) → i < m → vec_at (take (3 * m) (drop (3 * a) l)) i ≡ vec_at l (a + i) = λ l i k. at_cut m (drop (3 * a) l) i k ∙ at_drop a l i in
    record {
      same_scene = refl;
      same_diag = refl;
      same_emitters = refl;
      receivers = λ i k. rw (place t.p i k, place t.normals i k);
      inside = h;
    }

module _ (t : Setting) (a : ℕ) (q : Setting) (of : PartOf t a q) where
  pub row_of_part : (i : ℕ) → i < q.n → row_at q i ≡ row_at t (a + i)
  unfolding row_at
  row_of_part i h = rw (of.same_scene, of.same_diag, of.same_emitters, of.receivers i h)

  clusters_of_part : (k : ℕ) → k ≤ q.n → clusters_of q k ≡ rows (λ i. (row_at t (a + i)).cluster) k
  unfolding clusters_of
  clusters_of_part k f = rows_same _ _ k (λ i h. ap (λ (r : Row). r.cluster) (row_of_part i (omega arith)))

  weights_of_part : (k : ℕ) → k ≤ q.n → weights_of q k ≡ rows (λ i. (row_at t (a + i)).weight) k
  unfolding weights_of
  weights_of_part k f = rows_same _ _ k (λ i h. ap (λ (r : Row). r.weight) (row_of_part i (omega arith)))

  start_of_part : (k : ℕ) → k ≤ q.n → start_of t a + start_of q k ≡ start_of t (a + k)
  unfolding clusters_of
  start_of_part k f =
      ap (λ (x : List ℕ). start_of t a + length x) (clusters_of_part k f)
      ∙ sym (length-append (rows (λ i. (row_at t i).cluster) a) (rows (λ i. (row_at t (a + i)).cluster) k))
      ∙ ap length (sym (rows_split (λ i. (row_at t i).cluster) a k))

  evals_of_part : evals_of q q.n ≡ sums (λ i. (row_at t (a + i)).evals) q.n
  unfolding evals_of
  evals_of_part = fold_same (λ (x y : ℕ). x + y) 0 _ _ q.n (λ i h. ap (λ (r : Row). r.evals) (row_of_part i h))

  -- its rows, as they stand in the whole
  clusters_slice : (l : List ℕ) → start_of t t.n ≤ length l
      → slice (start_of t a) (start_of t (a + q.n)) (sets l 0 (clusters_of t t.n)) ≡ rows (λ i. (row_at t (a + i)).cluster) q.n
  unfolding clusters_of
  clusters_slice l k = rows_slice (λ i. (row_at t i).cluster) a q.n t.n l of.inside k

  weights_slice : (l : List Float) → start_of t t.n ≤ length l
      → slice (start_of t a) (start_of t (a + q.n)) (sets l 0 (weights_of t t.n)) ≡ rows (λ i. (row_at t (a + i)).weight) q.n
  unfolding weights_of
  weights_slice l k =
      rw (sym (as_many t a), sym (as_many t (a + q.n))) (rows_slice (λ i. (row_at t i).weight) a q.n t.n l of.inside (rw (as_many t t.n) k))

  -- the rows of a part are those rows of the whole
  pub rows_of_part : (whole : DoneCall t) (c : DoneCall q) → RowsOfPart t a q whole c
  rows_of_part whole c =
      let w = left t whole in
      let p = left q c in
      let h = of.inside in
      let at : (i : ℕ) → i ≤ t.n → number_at (starts_left whole) i ≡ start_of t i = λ i k. rw w.starts_as (at_filled (start_of t) (t.n + 1) i whole.starts 0 (omega arith)) in
      let links : c.told.links ≡ start_of q q.n = ap (λ (b : Built). b.links) p.told_as in
      record {
        starts = λ i k. rw (at a (omega (arith, h)), at (a + i) (omega (arith, h)), p.starts_as, at_filled (start_of q) (q.n + 1) i c.starts 0 (omega arith)) (start_of_part i k);
        clusters =
            same-take links p.clusters_as
            ∙ take_sets c.cluster (clusters_of q q.n) (start_of q q.n) refl p.clusters_hold_lem
            ∙ clusters_of_part q.n (omega arith)
            ∙ sym (same_slice (at a (omega (arith, h))) (at (a + q.n) h) w.clusters_as ∙ clusters_slice whole.cluster w.clusters_hold_lem);
        weights =
            same-take links p.weights_as
            ∙ take_sets c.weight (weights_of q q.n) (start_of q q.n) (as_many q q.n) p.weights_hold
            ∙ weights_of_part q.n (omega arith)
            ∙ sym (same_slice (at a (omega (arith, h))) (at (a + q.n) h) w.weights_as ∙ weights_slice whole.weight w.weights_hold);
      }

-- ---- evaluations of parts

-- one part more: from where the parts before it ended
part_more : (t : Setting) (from to e : ℕ) → Piece t from to e → evals_of t to ≡ evals_of t from + e
unfolding evals_of
part_more t from to e p =
    let n = p.setting.n in
    let told : p.call.told.evals ≡ evals_of p.setting n = ap (λ (b : Built). b.evals) (left p.setting p.call).told_as in
    ap (evals_of t) (sym p.up_to)
    ∙ sums_split (λ i. (row_at t i).evals) from n
    ∙ ap (λ (x : ℕ). evals_of t from + x) (sym (evals_of_part t from p.setting p.of) ∙ sym told ∙ p.told_evals)

parts_sum : (t : Setting) (cut evals : ℕ → ℕ) (k : ℕ) → cut 0 ≡ 0 → ((j : ℕ) → j < k → Piece t (cut j) (cut (j + 1)) (evals j)) → evals_of t (cut k) ≡ sums evals k
unfolding evals_of fold
parts_sum t cut evals zero z pieces = rw z
parts_sum t cut evals (suc k) z pieces =
    let more : evals_of t (cut (k + 1)) ≡ evals_of t (cut k) + evals k = part_more t (cut k) (cut (k + 1)) (evals k) (pieces k (omega arith)) in
    rw (sym (add-one k)) more ∙ ap (λ (x : ℕ). x + evals k) (parts_sum t cut evals k z (λ j h. pieces j (omega arith)))

-- the evaluations of parts that follow one another from the first surfel to the last add up to those of the whole
pub evals-add_up : (t : Setting) (cut evals : ℕ → ℕ) (k : ℕ) → cut 0 ≡ 0 → cut k ≡ t.n → ((j : ℕ) → j < k → Piece t (cut j) (cut (j + 1)) (evals j))
    → (whole : DoneCall t) → whole.told.evals ≡ sums evals k
evals-add_up t cut evals k z n pieces whole =
    ap (λ (b : Built). b.evals) (left t whole).told_as ∙ ap (evals_of t) (sym n) ∙ parts_sum t cut evals k z pieces

-- and are bounded by the counts of surfels and clusters
pub evals_bounded : (t : Setting) (c : DoneCall t) → c.told.evals ≤ t.n * (96 * t.emitters.nc + 2112)
evals_bounded t c =
    let e : c.told.evals ≡ evals_of t t.n = ap (λ (b : Built). b.evals) (left t c).told_as in
    rw e (evals_most t t.n)
