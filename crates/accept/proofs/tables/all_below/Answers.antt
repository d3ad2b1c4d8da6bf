-- `accept::tables::all_below` meets its contract. The loop has tested the first k numbers. Assumes nothing.
use mathlib.Core.Path.{◌≡◌}
use native.Mathlib.Omega.{arith}
use borrow.Author.Rules.{rules}
use Rattle.accept.specs.Tables.{all_below}
use Rattle.accept.proofs.Every.{every_none, every_more}
use Rattle.accept.proofs.tables.all_below.Goals as goal

pub loop-k-init : goal.loop-k-init
loop-k-init g c =
    (search rules, every_none _)

pub loop-k-preserved : goal.loop-k-preserved
loop-k-preserved g c =
    (search rules, every_more _ _ c.loop-k.invariant.1 (rw (c.wide.ensures, c.number.ensures)))

pub returns : goal.returns
unfolding all_below
returns g c =
    let e : c.loop-k.k ≡ c.args.n = omega arith in
    rw e at c.loop-k.invariant.1
