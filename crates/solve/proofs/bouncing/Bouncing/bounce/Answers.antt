-- `solve::bouncing::Bouncing::bounce` meets its contract. The rows read the light that was stored of the clusters, which is the clusters' light of the bounce's start. Assumes nothing.
use Rattle.solve.proofs.Bounced.{clusters_stored, over_power, bounce_by, change_by}
use Rattle.solve.proofs.bouncing.Bouncing.bounce.Goals as goal

pub returns-clause-light_after : goal.returns-clause-light_after
returns-clause-light_after c = clusters_stored c.requires c.update_power.ensures _ c.update_clusters.ensures

pub returns-clause-rad_value : goal.returns-clause-rad_value
returns-clause-rad_value c =
    bounce_by c.requires (clusters_stored c.requires c.update_power.ensures _ c.update_clusters.ensures)
    (over_power c.requires c.update_power.ensures _ c.update_irr.ensures) c.update_rad.ensures.rad_after

pub returns-clause-value : goal.returns-clause-value
returns-clause-value c =
    change_by c.requires (clusters_stored c.requires c.update_power.ensures _ c.update_clusters.ensures)
    (over_power c.requires c.update_power.ensures _ c.update_irr.ensures) c.update_rad.ensures.value
