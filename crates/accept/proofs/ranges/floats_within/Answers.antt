-- `accept::ranges::floats_within` meets its contract. The length is tested first, then the floats. Assumes nothing.
use mathlib.Core.Path.{sym, ◌∙◌}
use native.Mathlib.Omega.{arith}
use Rattle.accept.proofs.Bounded.{holds-le}
use Rattle.accept.proofs.ranges.floats_within.Goals as goal

pub overflow_mul-n : goal.overflow_mul-n
overflow_mul-n g c =
    let h = holds-le _ _ _ (sym c.holds.ensures ∙ c.if-holds.true) in omega arith

pub all_within-requires : goal.all_within-requires
all_within-requires g c =
    rw c.count.ensures at (holds-le _ _ _ (sym c.holds.ensures ∙ c.if-holds.true))

pub returns-then-holds : goal.returns-then-holds
returns-then-holds g c =
    rw (← c.count.ensures, sym c.holds.ensures ∙ c.if-holds.true) c.all_within.ensures

pub returns-else-holds : goal.returns-else-holds
returns-else-holds g c =
    rw (← c.count.ensures, sym c.holds.ensures ∙ c.if-holds.false) c.if-holds.false
