-- `accept::tables::all_ascend` meets its contract. The loop has tested the first i rows; the starts never fall, so each row lies within the links. Assumes nothing.
use mathlib.Core.Path.{◌≡◌}
use Prim.Native.Nat.{◌+◌}
use native.Mathlib.Omega.{arith}
use borrow.Author.Rules.{rules}
use Rattle.accept.specs.Tables.{all_ascend, number_at}
use Rattle.accept.proofs.Starts.{is_monotone}
use Rattle.accept.proofs.Every.{every_none, every_more}
use Rattle.accept.proofs.tables.all_ascend.Goals as goal

pub loop-i-init : goal.loop-i-init
loop-i-init g c =
    (search rules, every_none _)

pub ascends-ok-requires : goal.ascends-ok-requires
ascends-ok-requires g c =
    let i = c.loop-i.i in
    let h = is_monotone (number_at (g.N.Listed.items c.args.starts)) c.args.n c.args.count c.requires.count_value in
    let u = h.rising i c.loop-i-test.true in
    let v = h.inside (i + 1) (omega arith) in
    record {
      a_le_b = omega (arith, c.number.ensures, c.number-in-loop-i.ensures, c.requires);
      b_in_bounds = omega (arith, c.number.ensures, c.number-in-loop-i.ensures, c.requires);
    }

pub loop-i-preserved : goal.loop-i-preserved
loop-i-preserved g c = (
  search rules,
  every_more _ _ c.loop-i.invariant.1
      (rw (← c.number-in-loop-i.ensures, ← c.number.ensures) c.ascends-ok.ensures),
)

pub returns : goal.returns
unfolding all_ascend
returns g c =
    let e : c.loop-i.i ≡ c.args.n = omega arith in
    rw e at c.loop-i.invariant.1
