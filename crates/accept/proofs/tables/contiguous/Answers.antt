-- `accept::tables::contiguous` meets its contract. The loop has compared the first c ranges with the edges before them, and has the next edge. Assumes nothing.
use mathlib.Core.Path.{◌≡◌, refl, ◌∙◌}
use native.Mathlib.Omega.{arith}
use borrow.Author.Rules.{rules}
use Rattle.accept.specs.Tables.{contiguous, number_at}
use Rattle.accept.proofs.Every.{every_none, every_more}
use Rattle.accept.proofs.Joined.{edge_more}
use Rattle.accept.proofs.tables.contiguous.Goals as goal

pub loop-c-init : goal.loop-c-init
loop-c-init g c =
    (search rules, every_none _, refl)

pub loop-c-preserved : goal.loop-c-preserved
loop-c-preserved g c =
    let x = c.wide-first.ensures ∙ c.number.ensures in (
      search rules,
      every_more _ _ c.loop-c.invariant.1 (rw (x, c.loop-c.invariant.2)),
      edge_more (number_at (g.N.Listed.items c.args.firsts)) (number_at (g.N.Listed.items c.args.counts)) c.loop-c.c x (c.wide.ensures ∙ c.number-in-loop-c.ensures),
    )

pub returns : goal.returns
unfolding contiguous
returns g c =
    let e : c.loop-c.c ≡ c.args.n = omega arith in
    rw (c.loop-c.invariant.1, c.loop-c.invariant.2, e)
