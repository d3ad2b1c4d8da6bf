-- `file::floats::entry_within` meets its contract. The loop has tested the first j floats. Assumes nothing.
use mathlib.Core.Path.{◌≡◌}
use native.Mathlib.Omega.{arith}
use borrow.Author.Rules.{rules}
use Rattle.accept.specs.Ranges.{all_within}
use Rattle.accept.proofs.Every.{every_none, every_more}
use Rattle.file.proofs.floats.entry_within.Goals as goal

pub loop-j-init : goal.loop-j-init
loop-j-init c =
    (search rules, every_none _)

pub loop-j-preserved : goal.loop-j-preserved
loop-j-preserved c =
    (search rules, every_more _ _ c.loop-j.invariant.1 (rw (c.of_bits-x.ensures, c.word.ensures)))

pub returns : goal.returns
unfolding all_within
returns c =
    let e : c.loop-j.j ≡ c.args.width = omega arith in
    rw e at c.loop-j.invariant.1
