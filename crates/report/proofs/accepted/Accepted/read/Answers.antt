-- `report::accepted::Accepted::read` meets its contract. What are read, built and gathered are the file's own lists, and neither the build nor the readings are refused. Assumes nothing.
use mathlib.Core.Path.{◌≡◌, refl, ap, ◌∙◌}
use Prim.Native.Nat.{◌+◌, ◌*◌}
use native.Mathlib.Omega.{arith}
use lib.ListN.{take, replicate}
use Rattle.float.specs.Arithmetic.{0f}
use Rattle.file.specs.declared.Counts.{Counts}
use Rattle.file.specs.Blocks.{counts_in}
use Rattle.report.specs.Needs.{GridCut, ProbesCut}
use Rattle.report.proofs.Fitting.{grid_cut, probes_cut}
use Rattle.report.proofs.Gathered.{build_done, gather_done, gathered}
use Rattle.report.proofs.accepted.Accepted.read.Goals as goal
use Rattle.report.proofs.accepted.Accepted.read.Goals.{After-grid_build}

surfels : (c : After-grid_build) → c.wide-n.result ≡ (counts_in c.args.self.now.file.now).surfels
surfels c = c.wide-n.ensures ∙ ap (λ (x : Counts). x.surfels) c.counts-c.ensures.value

probes : (c : After-grid_build) → c.wide-count.result ≡ (counts_in c.args.self.now.file.now).probes
probes c = c.wide-count.ensures ∙ ap (λ (x : Counts). x.probes) c.counts-c.ensures.value

gridded : (c : After-grid_build) → GridCut (counts_in c.args.self.now.file.now) c.probe_box-x.result c.args.irr.now
    (take (3 * c.wide-n.result) (replicate 16384 0f)) (take (3 * c.wide-n.result) (replicate 16384 0f)) (take (c.cells.result + 1) (replicate 16384 0)) (take c.wide-n.result (replicate 16384 0))
gridded c =
    let m = rw c.space-space.ensures at c.cells.ensures in
    grid_cut 16384 c.args.irr.now c.wide-n.result c.cells.result (surfels c) m (omega arith) (omega (arith, c.probe_box-x.ensures.fits)) c.requires.irr_cut

probed : (c : After-grid_build) → ProbesCut (counts_in c.args.self.now.file.now)
    (take (3 * c.wide-count.result) (replicate 16384 0f)) (take (3 * c.wide-count.result) (replicate 16384 0f)) c.args.seen.now c.args.light.now
probed c = probes_cut 16384 c.wide-count.result (probes c) (omega arith) c.requires.seen_cut c.requires.light_cut

pub unwrap-requires : goal.unwrap-requires
unwrap-requires c =
    let a = (goal.at.unwrap-requires c).After-grid_build in
    build_done c.args.self.now.file.now c.args.self.now.accepted refl c.probe_box-x.ensures.value c.requires.irr_value (gridded a) (probed a) (surfels a)
    c.read_points.ensures.p_after (rw c.space-space.ensures at c.grid_build.ensures)

pub unwrap-requires-2 : goal.unwrap-requires-2
unwrap-requires-2 c =
    let a = (goal.at.unwrap-requires-2 c).After-grid_build in
    gather_done c.args.self.now.file.now c.args.self.now.accepted refl c.probe_box-x.ensures.value c.requires.irr_value (gridded a) (probed a) (surfels a) (probes a)
    c.read_points.ensures.p_after c.read_points.ensures.facing_after c.read_probes.ensures.p_after c.read_probes.ensures.facing_after
    (rw c.space-space.ensures at c.grid_build.ensures) (rw c.space-space.ensures at c.gather_all.ensures)

pub returns : goal.returns
returns c =
    let a = (goal.at.returns c).After-grid_build in
    let g =
    gathered c.args.self.now.file.now c.args.self.now.accepted refl c.probe_box-x.ensures.value c.requires.irr_value (gridded a) (probed a) (surfels a) (probes a)
    c.read_points.ensures.p_after c.read_points.ensures.facing_after c.read_probes.ensures.p_after c.read_probes.ensures.facing_after
    (rw c.space-space.ensures at c.grid_build.ensures) (rw c.space-space.ensures at c.gather_all.ensures)
    in
    record { seen_after = g.0; light_after = g.1 }
