-- `solve::bouncing::Bouncing::update_clusters` meets its contract. The loop has stored the light of the first c clusters. Assumes nothing.
use mathlib.Core.Path.{◌≡◌}
use borrow.Author.Rules.{rules}
use Rattle.accept.specs.Tables.{number_at}
use Rattle.vector.proofs.Replaced.{written_none, written_put}
use Rattle.solve.proofs.Lighted.{cluster_light_by}
use Rattle.solve.proofs.bouncing.Bouncing.update_clusters.Goals as goal

pub loop-c-init : goal.loop-c-init
loop-c-init c = written_none _ _

pub loop-c-preserved : goal.loop-c-preserved
loop-c-preserved c =
    let s = c.args.self.now in
    let cs = s.room.now.clusters in
    let k = c.loop-c.c in
    let from : c.wide-from.result ≡ number_at cs.first k = rw (← c.room.view_is, ← c.clusters.view_is) c.wide-from.ensures in
    let count : c.wide.result ≡ number_at cs.count k = rw (← c.room.view_is, ← c.clusters.view_is) c.wide.ensures in
    let v =
    cluster_light_by cs c.args.power.now s.held.clusters_listed c.requires.power_held k (search rules) from count
    c.as_chunks.ensures.front (rw (← c.room.view_is, ← c.clusters.view_is) c.members_light-sum.ensures)
    (rw (← c.room.view_is, ← c.clusters.view_is) c.max.ensures) c.over.ensures
    in
    written_put _ k _ c.loop-c.invariant (search rules) v c.put.ensures
