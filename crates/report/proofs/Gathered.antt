-- The readings of a file that is accepted: neither the build of its grid nor the reading of its probes is refused. Assumes nothing.
use Rattle.std.specs.Prelude.{Result, Ok}
use Rattle.std.specs.Result.{IsOk, is_ok}
use mathlib.Core.Bool.{true, ◌&&◌, and-eq-true_iff}
use mathlib.Core.List.{List, [], ◌∷◌}
use mathlib.Core.Path.{◌≡◌, ap, ◌∙◌}
use Prim.Native.Nat.{ℕ, ◌+◌, ◌*◌}
use native.Mathlib.Omega.{arith}
use borrow.Author.Tests.{le-leb, lt-ltb}
use lib.Dec.{leb, ltb}
use lib.Ieee.{Float}
use lib.ListN.{length, replicate, length-replicate}
use Rattle.vector.specs.Flat.{filled, written}
use Rattle.accept.specs.Every.{conj}
use Rattle.accept.specs.Limits.{max_surfels, max_program_file}
use Rattle.accept.specs.Ranges.{coordinates}
use Rattle.accept.specs.Refusal.{checked}
use Rattle.accept.specs.Tables.{at_most, holds, column}
use Rattle.accept.proofs.Bounded.{le_holds}
use Rattle.accept.proofs.Every.{conj_each}
use Rattle.accept.specs.declared.refusal.Refusal.{Refusal}
use Rattle.accept.proofs.Refused.{checked_past}
use Rattle.grid.specs.declared.Dims.{Dims}
use Rattle.grid.specs.Answers.{grid_build_answer}
use Rattle.grid.specs.Cells.{dims_of, cells}
use Rattle.grid.specs.Checks.{sized, build_tests, check_build}
use Rattle.grid.specs.Lent.{grid_of}
use Rattle.grid.proofs.Built.{built_refusal}
use Rattle.surfel.specs.Answers.{seen_number, seen_light, gather_all_answer}
use Rattle.surfel.specs.Checks.{radius_within, columns_hold, points_within, probes_lent, check, check_all}
use Rattle.surfel.specs.Gathering.{surfels_of}
use Rattle.transfer.specs.Checks.{floats_fit}
use Rattle.file.specs.declared.Counts.{Counts}
use Rattle.file.specs.declared.ProbeBox.{ProbeBox}
use Rattle.file.specs.Blocks.{counts_in, points, normals, probe_points, probe_normals}
use Rattle.file.specs.Columns.{floats_of, floats_read}
use Rattle.file.specs.Checks.{boxed, floats_pass}
use Rattle.file.specs.Rooms.{room_of_file, points_of_file, normals_of_file, box_of_file, probes_of_file}
use Rattle.file.proofs.Accepted.{has_points, has_normals, has_probe_points, has_probe_normals}
use Rattle.file.proofs.Entries.{floats_length, floats_in}
use Rattle.report.specs.Light.{run_of_file, grid_of_file, surfels_of_file, reading_of_file}
use Rattle.report.specs.Report.{report_check}
use Rattle.report.specs.Needs.{GridCut, ProbesCut}
use Rattle.report.proofs.Fitting.{tests_passed, end_fits}

-- a list of three floats for each of n holds n vectors
three_held : (l : List Float) (n : ℕ) → length l ≡ 3 * n → holds (length l) n 3 ≡ true
three_held l n h = le_holds (length l) n 3 (omega arith)

module _ (b : List ℕ) (e : report_check b ≡ Ok tt) where
  abbrev c : Counts
  c = counts_in b

  abbrev x : ProbeBox
  x = box_of_file b

  -- a grid's starts and items before it is built
  abbrev zero_starts : List ℕ
  zero_starts = replicate (cells (dims_of x.lo x.hi x.cell) + 1) 0

  abbrev zero_items : List ℕ
  zero_items = replicate c.surfels 0

  box_passed : (sized x.lo x.hi x.cell ≡ true) × (radius_within x.radius ≡ true)
  unfolding boxed
  box_passed = (and-eq-true_iff (sized x.lo x.hi x.cell) (radius_within x.radius)).0 (tests_passed b e).box_passed

  -- points and normals of surfels and probes
  record Within : Type 0 where
    points_passed : coordinates (points_of_file b) c.surfels ≡ true
    normals_passed : coordinates (normals_of_file b) c.surfels ≡ true
    probes_passed : coordinates (floats_of b (probe_points c)) c.probes ≡ true
    facing_passed : coordinates (floats_of b (probe_normals c)) c.probes ≡ true

  all_within_lem : Within
  unfolding floats_pass room_of_file probes_of_file
  all_within_lem =
      let r = room_of_file b in
      let q = probes_of_file b in
      let t =
      conj_each
      (coordinates (points_of_file b) r.n
      ∷ coordinates (normals_of_file b) r.n
      ∷ floats_fit r
      ∷ coordinates q.p q.count
      ∷ coordinates q.normals q.count
      ∷ [])
      (tests_passed b e).floats_passed
      in
      record { points_passed = t.0; normals_passed = t.1.0; probes_passed = t.1.1.1.0; facing_passed = t.1.1.1.1.0 }

  few_surfels : at_most c.surfels max_surfels ≡ true
  few_surfels = le-leb c.surfels max_surfels (omega (arith, end_fits b e))

  few_probes : at_most c.probes max_surfels ≡ true
  few_probes = le-leb c.probes max_surfels (omega (arith, end_fits b e))

  -- ---- the build

  build_lent : conj (column (points_of_file b) c.surfels
      ∷ ltb (cells (dims_of x.lo x.hi x.cell)) (length zero_starts)
      ∷ leb c.surfels (length zero_items)
      ∷ []) ≡ true
  build_lent =
      let k = cells (dims_of x.lo x.hi x.cell) in
      rw (
        three_held (points_of_file b) c.surfels (floats_length b (points c)),
        lt-ltb k (length zero_starts) (omega (arith, length-replicate {A = ℕ} (k + 1) 0)),
        le-leb c.surfels (length zero_items) (omega (arith, length-replicate {A = ℕ} c.surfels 0)),
      )

  build_accepts : check_build c.surfels (points_of_file b) x.lo x.hi x.cell (length zero_starts) (length zero_items) ≡ Ok tt
  unfolding check_build checked
  build_accepts =
      checked_past (build_tests c.surfels (points_of_file b) x.lo x.hi x.cell (length zero_starts) (length zero_items)) []
      (few_surfels, (box_passed.0, (build_lent, (all_within_lem.points_passed, tt))))

  built_lists : {r : Result Dims Refusal} {starts items : List ℕ}
      → (r, starts, items) ≡ grid_build_answer c.surfels (points_of_file b) x.lo x.hi x.cell zero_starts zero_items
      → (starts ≡ (grid_of_file b).starts) × (items ≡ (grid_of_file b).items)
  unfolding grid_build_answer grid_of_file
  built_lists h =
      let k = rw build_accepts at h in
      (ap (λ (t : Result Dims Refusal × List ℕ × List ℕ). t.1) k, ap (λ (t : Result Dims Refusal × List ℕ × List ℕ). t.2) k)

  built_taken : {r : Result Dims Refusal} {starts items : List ℕ}
      → (r, starts, items) ≡ grid_build_answer c.surfels (points_of_file b) x.lo x.hi x.cell zero_starts zero_items → IsOk r
  unfolding grid_build_answer
  built_taken h = ap (λ (t : Result Dims Refusal × List ℕ × List ℕ). is_ok t.0) (rw build_accepts at h)

  -- ---- the readings

  module _ (irr_cut : length (run_of_file b).light.irr ≡ 3 * c.surfels) (seen : List ℕ) (light : List Float) (seen_cut : length seen ≡ c.probes)
      (light_cut : length light ≡ 3 * c.probes) where
    columns_held : columns_hold c.surfels (surfels_of_file b) ≡ true
    unfolding columns_hold surfels_of_file
    columns_held =
        rw (
          three_held (points_of_file b) c.surfels (floats_length b (points c)),
          three_held (normals_of_file b) c.surfels (floats_length b (normals c)),
          three_held (run_of_file b).light.irr c.surfels irr_cut,
        )

    points_held : points_within c.surfels (surfels_of_file b) ≡ true
    unfolding points_within surfels_of_file
    points_held = rw (all_within_lem.points_passed, all_within_lem.normals_passed)

    probes_held : let q = probes_of_file b in probes_lent q.count (length q.p) (length q.normals) (length seen) (length light) ≡ true
    unfolding probes_lent probes_of_file
    probes_held =
        rw (
          three_held (floats_of b (probe_points c)) c.probes (floats_length b (probe_points c)),
          three_held (floats_of b (probe_normals c)) c.probes (floats_length b (probe_normals c)),
          le-leb c.probes (length seen) (omega arith),
          three_held light c.probes light_cut,
        )

    probes_within : let q = probes_of_file b in (coordinates q.p q.count && coordinates q.normals q.count) ≡ true
    unfolding probes_of_file
    probes_within = rw (all_within_lem.probes_passed, all_within_lem.facing_passed)

    gather_accepts : check_all (grid_of_file b) (surfels_of_file b) (probes_of_file b) (length seen) (length light) ≡ Ok tt
    unfolding check grid_of_file probes_of_file checked
    gather_accepts =
        rw (columns_held, probes_held, points_held, probes_within)
        (built_refusal c.surfels (points_of_file b) x.lo x.hi x.cell zero_starts zero_items _ build_accepts ∙ rw (few_probes, box_passed.1))

    gathered_lists : {r : Result Unit Refusal} {numbers : List ℕ} {floats : List Float}
        → (r, numbers, floats) ≡ gather_all_answer (grid_of_file b) (surfels_of_file b) (probes_of_file b) seen light
        → (numbers ≡ filled (λ i. seen_number (reading_of_file b i)) c.probes seen) × (floats ≡ written (λ i. seen_light (reading_of_file b i)) c.probes light)
    unfolding gather_all_answer reading_of_file probes_of_file
    gathered_lists h =
        let k = rw gather_accepts at h in
        (ap (λ (t : Result Unit Refusal × List ℕ × List Float). t.1) k, ap (λ (t : Result Unit Refusal × List ℕ × List Float). t.2) k)

    gathered_taken : {r : Result Unit Refusal} {numbers : List ℕ} {floats : List Float}
        → (r, numbers, floats) ≡ gather_all_answer (grid_of_file b) (surfels_of_file b) (probes_of_file b) seen light → IsOk r
    unfolding gather_all_answer
    gathered_taken h = ap (λ (t : Result Unit Refusal × List ℕ × List Float). is_ok t.0) (rw gather_accepts at h)

-- ---- what is read, built and gathered one after the other, in lists of their need

module _ (b : List ℕ) (e : report_check b ≡ Ok tt) {k : Counts} {y : ProbeBox} {irr p₀ normals₀ probes₀ facing₀ light₀ : List Float} {starts₀ items₀ seen₀ : List ℕ}
    (counts : k ≡ counts_in b) (box : y ≡ box_of_file b) (solved : irr ≡ (run_of_file b).light.irr) (gridded : GridCut k y irr p₀ normals₀ starts₀ items₀)
    (probed : ProbesCut k probes₀ facing₀ seen₀ light₀) where
  -- the build is one of the file's surfels, and not refused
  module _ {n : ℕ} {p : List Float} {starts items : List ℕ} {r : Result Dims Refusal} (n-is : n ≡ k.surfels) (p-is : p ≡ floats_read b (points k) p₀)
      (build : (r, starts, items) ≡ grid_build_answer n p y.lo y.hi y.cell starts₀ items₀) where
    points_read : p ≡ points_of_file b
    points_read = floats_in b points p₀ counts (has_points b max_program_file (tests_passed b e).formed_passed (omega arith)) gridded.p_cut p-is

    file_built : (r, starts, items)
        ≡ grid_build_answer (counts_in b).surfels (points_of_file b) (box_of_file b).lo (box_of_file b).hi (box_of_file b).cell (zero_starts b e) (zero_items b e)
    file_built = let g = rw (counts, box) at gridded in rw (n-is, counts, box, points_read, g.starts_cut, g.items_cut) at build

    pub build_done : IsOk r
    build_done = built_taken b e file_built

  -- the readings are those of the file's probes, and not refused
  module _ {n count : ℕ} {p facing probes probes_facing light : List Float} {starts items seen : List ℕ} {r : Result Dims Refusal} {s : Result Unit Refusal}
      (n-is : n ≡ k.surfels) (count_is : count ≡ k.probes) (p-is : p ≡ floats_read b (points k) p₀) (facing-is : facing ≡ floats_read b (normals k) normals₀)
      (probes-are : probes ≡ floats_read b (probe_points k) probes₀) (probes-facing : probes_facing ≡ floats_read b (probe_normals k) facing₀)
      (build : (r, starts, items) ≡ grid_build_answer n p y.lo y.hi y.cell starts₀ items₀)
      (gather : (s, seen, light) ≡ gather_all_answer (grid_of n starts items y.lo y.hi y.cell) (surfels_of p facing irr)
      (record { count = count; p = probes; normals = probes_facing; radius = y.radius }) seen₀ light₀) where
    irr_held : length (run_of_file b).light.irr ≡ 3 * (counts_in b).surfels
    irr_held = let g = rw counts at gridded in rw solved at g.irr_cut

    file_gathered : (s, seen, light) ≡ gather_all_answer (grid_of_file b) (surfels_of_file b) (probes_of_file b) seen₀ light₀
    unfolding grid_of_file surfels_of_file probes_of_file
    file_gathered =
        let f = (tests_passed b e).formed_passed in
        let m = floats_in b normals normals₀ counts (has_normals b max_program_file f (omega arith)) gridded.normals_cut facing-is in
        let q = floats_in b probe_points probes₀ counts (has_probe_points b max_program_file f (omega arith)) probed.p_cut probes-are in
        let a = floats_in b probe_normals facing₀ counts (has_probe_normals b max_program_file f (omega arith)) probed.normals_cut probes-facing in
        let lists = built_lists b e (file_built n-is p-is build) in
        rw (n-is, count_is, counts, box, points_read n-is p-is build, m, q, a, solved, lists.0, lists.1) at gather

    pub gather_done : IsOk s
    gather_done = let d = rw counts at probed in gathered_taken b e irr_held seen₀ light₀ d.seen_cut d.light_cut file_gathered

  pub gathered : {n count : ℕ} {p facing probes probes_facing light : List Float} {starts items seen : List ℕ} {r : Result Dims Refusal} {s : Result Unit Refusal}
      → n ≡ k.surfels → count ≡ k.probes
      → p ≡ floats_read b (points k) p₀ → facing ≡ floats_read b (normals k) normals₀
      → probes ≡ floats_read b (probe_points k) probes₀ → probes_facing ≡ floats_read b (probe_normals k) facing₀
      → (r, starts, items) ≡ grid_build_answer n p y.lo y.hi y.cell starts₀ items₀
      → (s, seen, light) ≡ gather_all_answer (grid_of n starts items y.lo y.hi y.cell) (surfels_of p facing irr)
      (record { count = count; p = probes; normals = probes_facing; radius = y.radius }) seen₀ light₀
      → (seen ≡ filled (λ i. seen_number (reading_of_file b i)) k.probes seen₀) × (light ≡ written (λ i. seen_light (reading_of_file b i)) k.probes light₀)
  gathered n-is count_is p-is facing-is probes-are probes-facing build gather =
      let d = rw counts at probed in
      rw counts
      (gathered_lists b e (irr_held n-is count_is p-is facing-is probes-are probes-facing build gather) seen₀ light₀ d.seen_cut d.light_cut
      (file_gathered n-is count_is p-is facing-is probes-are probes-facing build gather))
