-- The lists of a file that is accepted fit the places of a program, and columns cut from such places. Assumes nothing.
use Rattle.std.specs.Prelude.{Ok}
use mathlib.Core.List.{List, ◌∷◌}
use mathlib.Core.Path.{◌≡◌, refl, ap, ◌∙◌}
use Prim.Native.Nat.{ℕ, zero, suc, ◌+◌, ◌*◌, ◌≤◌, ◌<◌}
use native.Mathlib.Omega.{arith}
use lib.Ieee.{Float}
use lib.ListN.{length, take, replicate, length-replicate}
use lib.Seq.{length-take-le}
use borrow.Author.Tests.{ltb-true}
use Rattle.float.specs.Arithmetic.{0f}
use Rattle.accept.specs.Limits.{max_program_file}
use Rattle.grid.specs.Cells.{dims_of, cells}
use Rattle.file.specs.declared.Counts.{Counts}
use Rattle.file.specs.declared.ProbeBox.{ProbeBox}
use Rattle.file.specs.Blocks.{counts_in, end_of}
use Rattle.file.specs.Rooms.{box_of_file}
use Rattle.file.proofs.Accepted.{Passed, passed, file_ends}
use Rattle.report.specs.Light.{grid_fits, max_starts}
use Rattle.report.specs.Report.{report_check}
use Rattle.report.specs.Needs.{GridCut, ProbesCut}

module _ (b : List ℕ) (e : report_check b ≡ Ok tt) where
  -- each test of the file passed
  pub tests_passed : Passed b max_program_file (grid_fits (box_of_file b))
  tests_passed = passed b max_program_file (grid_fits (box_of_file b)) e

  -- the file has no more words than a program has places in a list, and so no more entries of any kind
  pub end_fits : end_of (counts_in b) ≤ 16384
  end_fits = omega (arith, file_ends b max_program_file tests_passed.formed_passed)

  -- the same by the counts that were handed
  pub counts_short : {c : Counts} → c ≡ counts_in b → end_of c ≤ 16384
  counts_short q = rw q end_fits

  -- the starts of the grid, one more than its cells, by the box that was handed
  pub starts_fit : {x : ProbeBox} → x ≡ box_of_file b → cells (dims_of x.lo x.hi x.cell) < max_starts
  starts_fit p = rw p (ltb-true _ max_starts tests_passed.lent_passed)

-- ---- lists of equal elements, lent in part

take_replicate : {A : Type 0} (n m : ℕ) (a : A) → n ≤ m → take n (replicate m a) ≡ replicate n a
take_replicate zero m a h = refl
take_replicate (suc n) zero a h = absurd (omega arith)
take_replicate {A} (suc n) (suc m) a h = ap (λ (l : List A). a ∷ l) (take_replicate n m a (omega arith))

pub cut-length : {A : Type 0} (m n : ℕ) (a : A) → n ≤ m → length (take n (replicate m a)) ≡ n
cut-length m n a h = length-take-le n (replicate m a) (rw (length-replicate m a) h)

-- the columns of a reading, each the front of a list of `top` places
pub grid_cut : (top : ℕ) {k : Counts} {y : ProbeBox} (irr : List Float) (n m : ℕ) → n ≡ k.surfels → m ≡ cells (dims_of y.lo y.hi y.cell)
    → 3 * n ≤ top → m + 1 ≤ top → length irr ≡ 3 * k.surfels
    → GridCut k y irr (take (3 * n) (replicate top 0f)) (take (3 * n) (replicate top 0f)) (take (m + 1) (replicate top 0)) (take n (replicate top 0))
grid_cut top irr n m p q h i l =
    let cut : length (take (3 * n) (replicate top 0f)) ≡ 3 * n = cut-length top (3 * n) 0f h in
    record {
      irr_cut = l;
      p_cut = cut ∙ ap (λ (j : ℕ). 3 * j) p;
      normals_cut = cut ∙ ap (λ (j : ℕ). 3 * j) p;
      starts_cut = take_replicate (m + 1) top 0 i ∙ ap (λ (j : ℕ). replicate (j + 1) 0) q;
      items_cut = take_replicate n top 0 (omega arith) ∙ ap (λ (j : ℕ). replicate j 0) p;
    }

pub probes_cut : (top : ℕ) {k : Counts} (n : ℕ) {seen : List ℕ} {light : List Float} → n ≡ k.probes → 3 * n ≤ top → length seen ≡ k.probes → length light ≡ 3 * k.probes
    → ProbesCut k (take (3 * n) (replicate top 0f)) (take (3 * n) (replicate top 0f)) seen light
probes_cut top n p h s l =
    let cut : length (take (3 * n) (replicate top 0f)) ≡ 3 * n = cut-length top (3 * n) 0f h in
    record {
      p_cut = cut ∙ ap (λ (j : ℕ). 3 * j) p;
      normals_cut = cut ∙ ap (λ (j : ℕ). 3 * j) p;
      seen_cut = s;
      light_cut = l;
    }
