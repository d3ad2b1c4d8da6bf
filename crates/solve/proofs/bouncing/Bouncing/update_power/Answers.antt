-- `solve::bouncing::Bouncing::update_power` meets its contract. The loop has stored the power of the first i surfels. Assumes nothing.
use mathlib.Core.Path.{◌≡◌}
use borrow.Author.Rules.{rules}
use Rattle.vector.specs.Flat.{vec_at}
use Rattle.vector.proofs.Replaced.{written_none, written_put}
use Rattle.solve.proofs.Chunked.{read_at}
use Rattle.solve.proofs.bouncing.Bouncing.update_power.Goals as goal

pub loop-i-init : goal.loop-i-init
loop-i-init c = written_none _ _

pub loop-i-preserved : goal.loop-i-preserved
loop-i-preserved c =
    let i = c.loop-i.i in
    let read : c.from.result ≡ vec_at c.args.rad.now i = read_at c.args.rad.now c.as_chunks.ensures.front c.requires.rad_held (search rules) c.from.ensures in
    written_put _ i _ c.loop-i.invariant (search rules) (rw (← c.room.view_is, ← read) c.scaled.ensures) c.put.ensures
