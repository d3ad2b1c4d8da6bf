-- `accept::tables::number` meets its contract: reading with 0 past the end is `get_or`. Assumes nothing.
use Rattle.std.proofs.lemmas.Option.{unwrap_or-slice_get}
use Rattle.accept.proofs.tables.number.Goals as goal

pub returns : goal.returns
returns g c = rw (c.unwrap_or.ensures, c.item.ensures) (unwrap_or-slice_get (g.N.Listed.items c.args.s) c.args.k 0)
