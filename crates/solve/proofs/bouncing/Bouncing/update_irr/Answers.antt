-- `solve::bouncing::Bouncing::update_irr` meets its contract. Each link's cluster is among the triples that the light is read by. Assumes nothing.
use Rattle.solve.proofs.Chunked.{written_triple}
use Rattle.solve.proofs.bouncing.Bouncing.update_irr.Goals as goal

pub returns-then-faint : goal.returns-then-faint
returns-then-faint c =
    let r = c.args.self.now.room.now in
    written_triple {rs = r.rows} c.args.light.now c.args.self.now.held.rows_lit c.requires.light_held c.args.irr.now c.as_chunks.ensures.front
    (rw (← c.room.view_is, ← c.room-inside.view_is, ← c.rows.view_is) c.faint_irr.ensures)

pub returns-else-faint : goal.returns-else-faint
returns-else-faint c =
    let r = c.args.self.now.room.now in
    written_triple {rs = r.rows} c.args.light.now c.args.self.now.held.rows_lit c.requires.light_held c.args.irr.now c.as_chunks.ensures.front
    (rw (← c.room.view_is, ← c.room-inside.view_is, ← c.rows.view_is) c.ample_irr.ensures)
