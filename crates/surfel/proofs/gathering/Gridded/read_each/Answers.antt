-- `surfel::gathering::Gridded::read_each` meets its contract. The loop has read and stored the first i probes. Assumes nothing.
use mathlib.Core.Path.{refl}
use native.Mathlib.Omega.{arith}
use lib.ListN.{length-set}
use Rattle.vector.proofs.Replaced.{filled_none, filled_put, written_none, written_put}
use Rattle.surfel.proofs.gathering.Gridded.read_each.Goals as goal

pub loop-i-init : goal.loop-i-init
loop-i-init c =
    (filled_none _ _, written_none _ _, refl, refl)

pub loop-i-preserved : goal.loop-i-preserved
loop-i-preserved c =
    let r = rw (← c.probes.view_is) at c.requires in
    let v = c.loop-i.invariant in (
      filled_put _ _ _ v.0 (omega (arith, r)) (rw (c.seen_number.ensures, c.read-reading.ensures, c.at-normal.ensures, c.at-at.ensures, ← c.probes.view_is)) refl,
      written_put _ _ _ v.1 (omega (arith, r)) (rw (c.seen_light.ensures, c.read-reading.ensures, c.at-normal.ensures, c.at-at.ensures, ← c.probes.view_is)) c.put.ensures,
      simp length-set v.2,
      omega arith,
    )
