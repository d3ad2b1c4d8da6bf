-- `accept::ranges::all_within` meets its contract. The loop has tested the first k floats. Assumes nothing.
use mathlib.Core.Path.{◌≡◌}
use lib.Ieee.{nan}
use native.Mathlib.Omega.{arith}
use borrow.Author.Rules.{rules}
use Rattle.std.proofs.lemmas.Option.{unwrap_or-slice_get}
use Rattle.accept.specs.Ranges.{all_within}
use Rattle.accept.proofs.Every.{every_none, every_more}
use Rattle.accept.proofs.ranges.all_within.Goals as goal

pub loop-k-init : goal.loop-k-init
loop-k-init g c =
    (search rules, every_none _)

pub loop-k-preserved : goal.loop-k-preserved
loop-k-preserved g c =
    (search rules, every_more _ _ c.loop-k.invariant.1 (rw (c.within-passed.ensures, c.unwrap_or-x.ensures, c.item.ensures, c.nan.ensures, unwrap_or-slice_get (g.F.Listed.items c.args.s) c.loop-k.k nan)))

pub returns : goal.returns
unfolding all_within
returns g c =
    let e : c.loop-k.k ≡ c.args.n = omega arith in
    rw e at c.loop-k.invariant.1
