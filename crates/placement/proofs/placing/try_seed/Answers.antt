-- `placement::placing::try_seed` meets its contract. Where the seed lands and there is room its point is stored and chained, and elsewhere nothing changes. Assumes nothing.
use mathlib.Core.Path.{sym, ◌∙◌}
use Rattle.placement.proofs.Tried.{try_none, try_kept, try_left, chains_put}
use Rattle.placement.proofs.placing.try_seed.Goals as goal

pub returns-in_default-clause-p_after : goal.returns-in_default-clause-p_after
returns-in_default-clause-p_after c =
    rw (← c.landed.ensures) (try_none c.args.s c.args.count c.args.p.now c.in_default.is)

pub chain-requires-clause-chains : goal.chain-requires-clause-chains
chain-requires-clause-chains c =
    rw c.put.ensures (chains_put c.args.s c.args.count c.args.p.now c.in-Some.at c.requires.chains)

pub returns-then-free-clause-p_after : goal.returns-then-free-clause-p_after
returns-then-free-clause-p_after c =
    rw (← c.landed.ensures, c.put.ensures) (try_kept c.args.s c.args.count c.args.p.now c.in-Some.at c.in-Some.is (sym c.free.ensures ∙ c.if-free.true))

pub returns-else-free-clause-p_after : goal.returns-else-free-clause-p_after
returns-else-free-clause-p_after c =
    rw (← c.landed.ensures) (try_left c.args.s c.args.count c.args.p.now c.in-Some.at c.in-Some.is (sym c.free.ensures ∙ c.if-free.false))
