-- `clusters::aggregating::aggregate` meets its contract. The loop has written the first k clusters. Assumes nothing.
use Rattle.std.proofs.Common.{◌≡◌, refl, ap, arith}
use Rattle.vector.proofs.Replaced.{written_none, written_put, filled_none, filled_put}
use Rattle.clusters.specs.declared.Cluster.{Cluster}
use Rattle.clusters.proofs.aggregating.aggregate.Goals as goal

pub loop-k-init : goal.loop-k-init
loop-k-init c =
    record { centres = written_none _ _; normals = written_none _ _; areas = filled_none _ _; radii = filled_none _ _ }

pub loop-k-preserved : goal.loop-k-preserved
loop-k-preserved c =
    let h = c.loop-k-test.true in
    let v = c.loop-k.invariant in
    record {
      centres = written_put _ _ _ v.centres (omega (arith, h, c.requires.p_in_bounds)) (ap (λ (x : Cluster). x.p) c.cluster_of-c.ensures) c.put.ensures;
      normals = written_put _ _ _ v.normals (omega (arith, h, c.requires.n_in_bounds)) (ap (λ (x : Cluster). x.n) c.cluster_of-c.ensures) c.put-in-loop-k.ensures;
      areas = filled_put _ _ _ v.areas (omega (arith, h, c.requires.area_in_bounds)) (ap (λ (x : Cluster). x.area) c.cluster_of-c.ensures) refl;
      radii = filled_put _ _ _ v.radii (omega (arith, h, c.requires.radius_in_bounds)) (ap (λ (x : Cluster). x.radius) c.cluster_of-c.ensures) refl;
    }

pub returns : goal.returns
returns c =
    let v = c.loop-k.invariant in
    let e : c.loop-k.k ≡ c.args.groups.now.made = omega arith in
    record { p_after = rw e at v.centres; n_after = rw e at v.normals; area_after = rw e at v.areas; radius_after = rw e at v.radii }
