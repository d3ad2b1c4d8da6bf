-- `report::accepted::Accepted::solve` meets its contract. The columns hold the file's room after the reads, and neither the reset nor the solve of it is refused. Assumes nothing.
use mathlib.Core.Path.{◌≡◌, refl, ap, ◌∙◌}
use Rattle.std.specs.Result.{IsOk}
use Rattle.transfer.specs.Room.{light_of}
use Rattle.solve.specs.Answers.{run_of}
use Rattle.file.specs.declared.Counts.{Counts}
use Rattle.file.specs.Blocks.{counts_in}
use Rattle.report.specs.Light.{run_of_file}
use Rattle.report.specs.Needs.{made_by}
use Rattle.report.proofs.Bounced.{surfels_cut, clusters_cut, rows_cut, reset_done, solve_done, solved}
use Rattle.report.proofs.accepted.Accepted.solve.Goals as goal
use Rattle.report.proofs.accepted.Accepted.solve.Goals.{After-solve}

pub unwrap-requires : goal.unwrap-requires
unwrap-requires c =
    let b = c.args.self.now.file.now in
    let k = c.counts-c.ensures.value in
    reset_done b c.args.self.now.accepted refl
    (surfels_cut (counts_in b) 16384 (rw k at c.counts-c.ensures.fits) c.args.irr.now (c.wide-n.ensures ∙ ap (λ (x : Counts). x.surfels) k) c.requires)
    c.read_surfaces.ensures.direct_after c.reset.ensures

-- the solve is not refused, and makes the run of the file
run_made : (c : After-solve) → IsOk c.solve.result × (run_of (made_by c.solve.result) (light_of c.solve.new.irr c.solve.new.rad) ≡ run_of_file c.args.self.now.file.now)
run_made c =
    let b = c.args.self.now.file.now in
    let e = c.args.self.now.accepted in
    let k = c.counts-c.ensures.value in
    let fits = rw k at c.counts-c.ensures.fits in
    let n = c.wide-n.ensures ∙ ap (λ (x : Counts). x.surfels) k in
    let surfels = surfels_cut (counts_in b) 16384 fits c.args.irr.now n c.requires in
    let clusters =
    clusters_cut (counts_in b) 16384 fits (c.wide-nc.ensures ∙ ap (λ (x : Counts). x.clusters) k) (c.wide-members.ensures ∙ ap (λ (x : Counts). x.members) k)
    in
    let rows = rows_cut (counts_in b) 16384 fits n (c.wide-links.ensures ∙ ap (λ (x : Counts). x.links) k) in
    let s = c.read_surfaces.ensures in
    let limit = c.wide.ensures ∙ ap (λ (x : Counts). x.limit) k in
    let h = rw (c.clusters.ensures, c.rows.ensures) at c.solve.ensures in (
      solve_done b e refl surfels clusters rows (s.albedo_after, (s.area_after, s.direct_after)) (refl, (refl, (refl, refl))) (refl, (refl, refl)) c.reset.ensures
          (record { surfels_wide = n; clusters_wide = refl; members_wide = refl; links_wide = refl; limit_wide = limit }) h,
      solved b e refl surfels clusters rows (s.albedo_after, (s.area_after, s.direct_after)) (refl, (refl, (refl, refl))) (refl, (refl, refl)) c.reset.ensures
          (record { surfels_wide = n; clusters_wide = refl; members_wide = refl; links_wide = refl; limit_wide = limit }) h refl,
    )

pub unwrap-requires-2 : goal.unwrap-requires-2
unwrap-requires-2 c = (run_made (goal.at.unwrap-requires-2 c).After-solve).0

pub returns : goal.returns
returns c =
    let made = rw c.unwrap-2.ensures at (run_made (goal.at.returns c).After-solve).1 in
    record { bounces_value = ap (λ q. q.bounces) made; change_value = ap (λ q. q.last) made; irr_value = ap (λ q. q.light.irr) made }
