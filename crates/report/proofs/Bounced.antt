-- The solve of a file that is accepted: its columns are short, it is read in full, and a reset and a solve of its room leave the light of its run. Assumes nothing.
use Rattle.std.specs.Prelude.{Result, Ok}
use Rattle.std.specs.Result.{IsOk, is_ok}
use mathlib.Core.Bool.{true, and-eq-true_iff}
use mathlib.Core.List.{List, [], ◌∷◌}
use mathlib.Core.Path.{◌≡◌, sym, ap, subst, ◌∙◌}
use Prim.Native.Nat.{ℕ, ◌+◌, ◌*◌, ◌%◌, ◌≤◌}
use native.Mathlib.Omega.{arith}
use lib.Ieee.{Float}
use lib.ListN.{length, take, replicate, length-replicate}
use borrow.Author.Tests.{le-leb, leb-true, eq-eqb}
use Rattle.float.specs.Arithmetic.{0f}
use Rattle.float.specs.Column.{float_at}
use Rattle.accept.specs.Limits.{max_file, max_program_file, max_surfels, max_clusters, max_links, max_bounces, max_albedo, max_amount, max_cluster_area, max_weight}
use Rattle.accept.specs.Ranges.{all_within, floats_within}
use Rattle.accept.specs.Refusal.{checked}
use Rattle.accept.specs.Tables.{at_most, holds}
use Rattle.accept.proofs.Bounded.{le_holds}
use Rattle.accept.proofs.Every.{conj_each}
use Rattle.accept.specs.declared.refusal.Refusal.{Refusal}
use Rattle.reset.specs.Resetting.{reset_answer}
use Rattle.reset.specs.Resetting.{check as reset_check}
use Rattle.transfer.specs.Room.{Room, Light, clusters_of, rows_of, room_of, light_of}
use Rattle.transfer.specs.Checks.{counts_within, floats_fit, check}
use Rattle.transfer.proofs.Acceptance.{Answered, not_refused}
use Rattle.solve.specs.declared.SolveStats.{SolveStats}
use Rattle.solve.specs.Runs.{run}
use Rattle.solve.specs.Answers.{run_of, solve_answer}
use Rattle.solve.proofs.Readings.{run_most}
use Rattle.file.specs.declared.Counts.{Counts}
use Rattle.file.specs.Blocks.{counts_in, end_of, albedos, areas, directs, cluster_areas, firsts, member_counts, members}
use Rattle.file.specs.Blocks.{row_starts, link_clusters, link_weights}
use Rattle.file.specs.Columns.{floats_of, numbers_read, floats_read}
use Rattle.file.specs.Rooms.{clusters_of_file, rows_of_file, room_of_file, box_of_file}
use Rattle.file.proofs.Entries.{floats_length, floats_in, numbers_in}
use Rattle.file.proofs.Accepted.{solve_accepts, has_albedos, has_areas, has_directs, has_cluster_areas, has_firsts}
use Rattle.file.proofs.Accepted.{has_member_counts, has_members, has_row_starts, has_link_clusters, has_link_weights}
use Rattle.report.specs.Light.{start_light, run_of_file, grid_fits}
use Rattle.report.specs.Report.{report_check}
use Rattle.report.specs.Needs.{made_by, SurfelsCut, ClustersCut, RowsCut}
use Rattle.report.proofs.Fitting.{tests_passed, cut-length}

-- ---- a file that is accepted

module _ (b : List ℕ) (e : report_check b ≡ Ok tt) where
  -- a solve takes its room
  taken : let c = counts_in b in Answered (room_of_file b) c.limit (3 * c.surfels) (3 * c.surfels) (3 * c.clusters)
  taken =
      let c = counts_in b in
      not_refused (room_of_file b) c.limit (3 * c.surfels) (3 * c.surfels) (3 * c.clusters) (solve_accepts b max_program_file (grid_fits (box_of_file b)) e)

  -- it has no more surfels than may be, and its limit is no more than may be
  counts_few : let c = counts_in b in (c.surfels ≤ max_surfels) × (c.limit ≤ max_bounces)
  unfolding counts_within room_of_file clusters_of_file rows_of_file
  counts_few =
      let c = counts_in b in
      let t =
      conj_each
      (at_most c.surfels max_surfels
      ∷ at_most c.clusters max_clusters
      ∷ at_most c.members max_surfels
      ∷ at_most c.links max_links
      ∷ at_most c.limit max_bounces
      ∷ [])
      taken.counts_passed
      in
      (leb-true _ _ t.0, leb-true _ _ t.1.1.1.1.0)

  -- its direct light is in range
  direct_within : let c = counts_in b in floats_within (floats_of b (directs c)) c.surfels 3 0f max_amount ≡ true
  unfolding floats_fit room_of_file clusters_of_file rows_of_file
  direct_within =
      let r = room_of_file b in
      (conj_each
      (floats_within r.albedo r.n 3 0f max_albedo
      ∷ floats_within r.area r.n 1 0f max_amount
      ∷ floats_within r.direct r.n 3 0f max_amount
      ∷ floats_within r.clusters.area r.clusters.nc 1 0f max_cluster_area
      ∷ floats_within r.rows.weight r.rows.links 1 0f max_weight
      ∷ [])
      taken.floats_passed
      ).1.1.0

-- the run of a file that is accepted makes at most 4,096 bounces
pub run_few : (b : List ℕ) → report_check b ≡ Ok tt → (run_of_file b).bounces ≤ max_bounces
unfolding run_of_file
run_few b e = let h = run_most (room_of_file b) (counts_in b).limit (start_light b) in omega (arith, h, (counts_few b e).1)

-- ---- the reset

-- the same floats, three by three and one by one
within_each : (l : List Float) (n : ℕ) (lo hi : Float) → length l ≡ 3 * n → floats_within l n 3 lo hi ≡ true → floats_within l (length l) 1 lo hi ≡ true
within_each l n lo hi h e =
    let both = (and-eq-true_iff (holds (length l) n 3) (all_within (float_at l) (n * 3) lo hi)).0 e in
    let k : length l * 1 ≡ n * 3 = omega arith in
    rw (le_holds (length l) (length l) 1 (omega arith)) (subst (λ (m : ℕ). all_within (float_at l) m lo hi ≡ true) (sym k) both.1)

module _ (b : List ℕ) (e : report_check b ≡ Ok tt) where
  -- a reset to the file's light is not refused
  reset_accepts : (light : List Float) (direct irr rad : ℕ) → let n = 3 * (counts_in b).surfels in light ≡ floats_of b (directs (counts_in b)) → direct ≡ n → irr ≡ n → rad ≡ n
      → reset_check light direct irr rad ≡ Ok tt
  unfolding reset_check checked
  reset_accepts light direct irr rad p q s t =
      let n = (counts_in b).surfels in
      let h = (counts_few b e).0 in
      let l : length light ≡ 3 * n = ap length p ∙ floats_length b (directs (counts_in b)) in
      rw (
        le-leb (length light) (3 * max_surfels) (omega arith),
        le-leb direct (3 * max_surfels) (omega arith),
        le-leb irr (3 * max_surfels) (omega arith),
        le-leb rad (3 * max_surfels) (omega arith),
        eq-eqb (length light % 3) 0 (omega arith),
        eq-eqb direct (length light) (omega arith),
        eq-eqb irr (length light) (omega arith),
        eq-eqb rad (length light) (omega arith),
        within_each light n 0f max_amount l (rw p (direct_within b e)),
      )

  -- and leaves it in direct and rad, and zeros in irr
  reset_left_lem : (light direct irr rad : List Float) {a : Result Unit Refusal} {d i r : List Float} → let n = 3 * (counts_in b).surfels in
      light ≡ floats_of b (directs (counts_in b)) → length direct ≡ n → length irr ≡ n → length rad ≡ n → (a, d, i, r) ≡ reset_answer light direct irr rad
      → (d ≡ floats_of b (directs (counts_in b))) × (i ≡ replicate n 0f) × (r ≡ floats_of b (directs (counts_in b)))
  unfolding reset_answer
  reset_left_lem light direct irr rad p q s t w =
      let h = rw (reset_accepts light (length direct) (length irr) (length rad) p q s t) at w in
      (ap (λ x. x.1) h ∙ p, ap (λ x. x.2) h ∙ rw s, ap (λ x. x.3) h ∙ p)

-- ---- the solve

-- a solve that is not refused made its run
solve_left_lem : (r : Room) (limit : ℕ) (l : Light) (s : List Float) {a : Result SolveStats Refusal} {m : Light} {t : List Float}
    → check r limit (length l.irr) (length l.rad) (length s) ≡ Ok tt → (a, m, t) ≡ solve_answer r limit l s → run_of (made_by a) m ≡ run r limit l
unfolding solve_answer
solve_left_lem r limit l s e p = let h = rw e at p in ap (λ (x : Result SolveStats Refusal × Light × List Float). run_of (made_by x.0) x.1) h

module _ (b : List ℕ) (e : report_check b ≡ Ok tt) (s : List Float) {a : Result SolveStats Refusal} {m : Light} {t : List Float} (h : length s ≡ 3 * (counts_in b).clusters)
    (p : (a, m, t) ≡ solve_answer (room_of_file b) (counts_in b).limit (start_light b) s) where
  -- a solve of the file's room, from the light of a reset, is not refused
  solve_taken : let l = start_light b in check (room_of_file b) (counts_in b).limit (length l.irr) (length l.rad) (length s) ≡ Ok tt
  unfolding start_light room_of_file
  solve_taken =
      let c = counts_in b in
      rw (length-replicate (3 * c.surfels) 0f, floats_length b (directs c), h) (solve_accepts b max_program_file (grid_fits (box_of_file b)) e)

  file_taken : IsOk a
  unfolding solve_answer
  file_taken = ap (λ (x : Result SolveStats Refusal × Light × List Float). is_ok x.0) (rw solve_taken at p)

  -- and makes its run
  file_solved : run_of (made_by a) m ≡ run_of_file b
  unfolding run_of_file
  file_solved = solve_left_lem (room_of_file b) (counts_in b).limit (start_light b) s solve_taken p

-- ---- the columns that were read

-- the counts as a solve takes them
pub record Widened (c : Counts) (n nc members links limit : ℕ) : Type 0 where
  pub surfels_wide : n ≡ c.surfels
  pub clusters_wide : nc ≡ c.clusters
  pub members_wide : members ≡ c.members
  pub links_wide : links ≡ c.links
  pub limit_wide : limit ≡ c.limit

-- a reset to the light that was read is not refused
pub reset_done : (b : List ℕ) {c : Counts} {light direct irr rad albedo area light₁ d i r : List Float} {a : Result Unit Refusal} → report_check b ≡ Ok tt → c ≡ counts_in b
    → SurfelsCut c light direct irr rad albedo area → light₁ ≡ floats_read b (directs c) light → (a, d, i, r) ≡ reset_answer light₁ direct irr rad → IsOk a
unfolding reset_answer
reset_done b {c} {light} {direct} {irr} {rad} e q surfels reads set =
    let n : 3 * c.surfels ≡ 3 * (counts_in b).surfels = ap (λ (x : Counts). 3 * x.surfels) q in
    let l = floats_in b directs light q (has_directs b _ (tests_passed b e).formed_passed (omega arith)) surfels.light_cut reads in
    ap (λ (x : Result Unit Refusal × List Float × List Float × List Float). is_ok x.0)
    (rw (reset_accepts b e _ (length direct) (length irr) (length rad) l (surfels.direct_cut ∙ n) (surfels.irr_cut ∙ n) (surfels.rad_cut ∙ n)) at set)

module _ (b : List ℕ) {c : Counts} {light direct irr rad albedo area : List Float} {cluster_area : List Float} {first count member : List ℕ} {scratch : List Float}
    {starts cluster : List ℕ} {weight : List Float} {albedo₁ area₁ light₁ clusterArea₁ : List Float} {first₁ count₁ member₁ starts₁ cluster₁ : List ℕ} {weight₁ : List Float}
    {d i r : List Float} {a : Result Unit Refusal} {n nc k links limit : ℕ} {answer : Result SolveStats Refusal} {m : Light} {t : List Float} (e : report_check b ≡ Ok tt)
    (q : c ≡ counts_in b) (surfels : SurfelsCut c light direct irr rad albedo area) (clusters : ClustersCut c cluster_area first count member scratch)
    (rows : RowsCut c starts cluster weight)
    (reads : (albedo₁ ≡ floats_read b (albedos c) albedo) × ((area₁ ≡ floats_read b (areas c) area) × (light₁ ≡ floats_read b (directs c) light)))
    (reads₂ : (clusterArea₁ ≡ floats_read b (cluster_areas c) cluster_area)
    × ((first₁ ≡ numbers_read b (firsts c) first) × ((count₁ ≡ numbers_read b (member_counts c) count) × (member₁ ≡ numbers_read b (members c) member))))
    (reads₃ : (starts₁ ≡ numbers_read b (row_starts c) starts) × ((cluster₁ ≡ numbers_read b (link_clusters c) cluster) × (weight₁ ≡ floats_read b (link_weights c) weight)))
    (set : (a, d, i, r) ≡ reset_answer light₁ direct irr rad) (w : Widened c n nc k links limit)
    (solving : (answer, m, t)
    ≡ solve_answer (room_of n albedo₁ area₁ d (clusters_of nc k clusterArea₁ first₁ count₁ member₁) (rows_of links starts₁ cluster₁ weight₁)) limit (light_of i r) scratch) where
  scratch_cut : length scratch ≡ 3 * (counts_in b).clusters
  scratch_cut = clusters.scratch_cut ∙ ap (λ (x : Counts). 3 * x.clusters) q

  -- what was read and reset is the file's room, and its light before the first bounce
  room_solved : (answer, m, t) ≡ solve_answer (room_of_file b) (counts_in b).limit (start_light b) scratch
  unfolding start_light room_of_file clusters_of_file rows_of_file
  room_solved =
      let f = (tests_passed b e).formed_passed in
      let g : max_program_file ≤ max_file = omega arith in
      let n : 3 * c.surfels ≡ 3 * (counts_in b).surfels = ap (λ (x : Counts). 3 * x.surfels) q in
      let l = floats_in b directs light q (has_directs b _ f g) surfels.light_cut reads.1.1 in
      let left = reset_left_lem b e _ direct irr rad l (surfels.direct_cut ∙ n) (surfels.irr_cut ∙ n) (surfels.rad_cut ∙ n) set in
      rw (
        floats_in b albedos albedo q (has_albedos b _ f g) surfels.albedo_cut reads.0,
        floats_in b areas area q (has_areas b _ f g) (omega (arith, surfels.area_cut)) reads.1.0,
        floats_in b cluster_areas cluster_area q (has_cluster_areas b _ f g) (omega (arith, clusters.area_cut)) reads₂.0,
        numbers_in b firsts first q (has_firsts b _ f g) clusters.first_cut reads₂.1.0,
        numbers_in b member_counts count q (has_member_counts b _ f g) clusters.count_cut reads₂.1.1.0,
        numbers_in b members member q (has_members b _ f g) clusters.member_cut reads₂.1.1.1,
        numbers_in b row_starts starts q (has_row_starts b _ f g) rows.starts_cut reads₃.0,
        numbers_in b link_clusters cluster q (has_link_clusters b _ f g) rows.cluster_cut reads₃.1.0,
        floats_in b link_weights weight q (has_link_weights b _ f g) (omega (arith, rows.weight_cut)) reads₃.1.1,
        left.0,
        left.1,
        left.2,
        w.surfels_wide ∙ ap (λ (x : Counts). x.surfels) q,
        w.clusters_wide ∙ ap (λ (x : Counts). x.clusters) q,
        w.members_wide ∙ ap (λ (x : Counts). x.members) q,
        w.links_wide ∙ ap (λ (x : Counts). x.links) q,
        w.limit_wide ∙ ap (λ (x : Counts). x.limit) q,
      ) at solving

  -- so that the solve is not refused
  pub solve_done : IsOk answer
  solve_done = file_taken b e scratch scratch_cut room_solved

-- columns of the length of their need, a file read into them, a reset and a solve
pub solved : (b : List ℕ) {c : Counts} {light direct irr rad albedo area : List Float} {cluster_area : List Float} {first count member : List ℕ} {scratch : List Float}
    {starts cluster : List ℕ} {weight : List Float} {albedo₁ area₁ light₁ clusterArea₁ : List Float} {first₁ count₁ member₁ starts₁ cluster₁ : List ℕ} {weight₁ : List Float}
    {d i r : List Float} {a : Result Unit Refusal} {n nc k links limit : ℕ} {answer : Result SolveStats Refusal} {made : SolveStats} {m : Light} {t : List Float}
    → report_check b ≡ Ok tt → c ≡ counts_in b → SurfelsCut c light direct irr rad albedo area → ClustersCut c cluster_area first count member scratch → RowsCut c starts cluster weight
    → (albedo₁ ≡ floats_read b (albedos c) albedo) × ((area₁ ≡ floats_read b (areas c) area) × (light₁ ≡ floats_read b (directs c) light))
    → (clusterArea₁ ≡ floats_read b (cluster_areas c) cluster_area)
    × ((first₁ ≡ numbers_read b (firsts c) first) × ((count₁ ≡ numbers_read b (member_counts c) count) × (member₁ ≡ numbers_read b (members c) member)))
    → (starts₁ ≡ numbers_read b (row_starts c) starts) × ((cluster₁ ≡ numbers_read b (link_clusters c) cluster) × (weight₁ ≡ floats_read b (link_weights c) weight))
    → (a, d, i, r) ≡ reset_answer light₁ direct irr rad → Widened c n nc k links limit
    → (answer, m, t)
    ≡ solve_answer (room_of n albedo₁ area₁ d (clusters_of nc k clusterArea₁ first₁ count₁ member₁) (rows_of links starts₁ cluster₁ weight₁)) limit (light_of i r) scratch
    → made ≡ made_by answer → run_of made m ≡ run_of_file b
solved b e q surfels clusters rows reads reads₂ reads₃ set w solving by_made =
    rw by_made
    (file_solved b e _ (scratch_cut b e q surfels clusters rows reads reads₂ reads₃ set w solving) (room_solved b e q surfels clusters rows reads reads₂ reads₃ set w solving))

-- ---- columns cut from k places

-- the columns of a solve, each of the length of its need
module _ (c : Counts) (k : ℕ) (short : end_of c ≤ k) where
  pub surfels_cut : {n : ℕ} (irr : List Float) → n ≡ c.surfels → length irr ≡ 3 * c.surfels → let l = take (3 * n) (replicate k 0f) in SurfelsCut c l l irr l l (take n (replicate k 0f))
  surfels_cut {n} irr e cut =
      let three : length (take (3 * n) (replicate k 0f)) ≡ 3 * c.surfels = cut-length k (3 * n) 0f (omega arith) ∙ ap (λ (m : ℕ). 3 * m) e in
      record {
        light_cut = three;
        direct_cut = three;
        irr_cut = cut;
        rad_cut = three;
        albedo_cut = three;
        area_cut = cut-length k n 0f (omega arith) ∙ e;
      }

  pub clusters_cut : {n m : ℕ} → n ≡ c.clusters → m ≡ c.members
      → let l = take n (replicate {A = ℕ} k 0) in ClustersCut c (take n (replicate k 0f)) l l (take m (replicate {A = ℕ} k 0)) (take (3 * n) (replicate k 0f))
  clusters_cut {n} {m} e f = record {
    area_cut = cut-length k n 0f (omega arith) ∙ e;
    first_cut = cut-length k n 0 (omega arith) ∙ e;
    count_cut = cut-length k n 0 (omega arith) ∙ e;
    member_cut = cut-length k m 0 (omega arith) ∙ f;
    scratch_cut = cut-length k (3 * n) 0f (omega arith) ∙ ap (λ (j : ℕ). 3 * j) e;
  }

  pub rows_cut : {n m : ℕ} → n ≡ c.surfels → m ≡ c.links
      → RowsCut c (take (n + 1) (replicate {A = ℕ} k 0)) (take m (replicate {A = ℕ} k 0)) (take m (replicate k 0f))
  rows_cut {n} {m} e f = record {
    starts_cut = cut-length k (n + 1) 0 (omega arith) ∙ ap (λ (j : ℕ). j + 1) e;
    cluster_cut = cut-length k m 0 (omega arith) ∙ f;
    weight_cut = cut-length k m 0f (omega arith) ∙ f;
  }
