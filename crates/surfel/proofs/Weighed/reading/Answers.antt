-- `surfel::Weighed::reading` meets its contract. The comparison tells whether it is seen. Assumes nothing.
use Rattle.surfel.proofs.Compared.{seen, unseen}
use Rattle.surfel.proofs.Weighed.reading.Goals as goal

pub returns-then-self : goal.returns-then-self
returns-then-self c =
    seen _ c.if-self.true c.over.ensures

pub returns-else-self : goal.returns-else-self
returns-else-self c =
    unseen _ c.if-self.false
