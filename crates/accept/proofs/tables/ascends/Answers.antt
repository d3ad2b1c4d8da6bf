-- `accept::tables::ascends` meets its contract. The loop has compared the links of the row before the one at place j with the next. Assumes nothing.
use mathlib.Core.Path.{◌≡◌, ap, ◌∙◌}
use Prim.Native.Nat.{◌+◌, ◌-◌}
use native.Mathlib.Omega.{arith}
use lib.Dec.{ltb}
use Rattle.accept.specs.Tables.{ascends, number_at}
use Rattle.accept.proofs.Every.{every_none, every_more}
use Rattle.accept.proofs.tables.ascends.Goals as goal

pub loop-j-init : goal.loop-j-init
loop-j-init g c =
    let none : c.wide-j.result + 1 - 1 - c.args.a ≡ 0 = omega arith in
    (omega arith, rw none (every_none _))

pub loop-j-preserved : goal.loop-j-preserved
loop-j-preserved g c =
    let a = c.args.a in
    let i = c.loop-j.j - 1 - a in
    let link = number_at (g.N.Listed.items c.args.links) in
    let next : c.loop-j.j + 1 - 1 - a ≡ i + 1 = omega arith in
    let back : c.loop-j.j - 1 ≡ a + i = omega arith in
    let here : c.loop-j.j ≡ a + i + 1 = omega arith in
    (omega arith, rw next (every_more _ i c.loop-j.invariant.1 (rw (c.number.ensures, c.number-in-loop-j.ensures) (ap (λ k. ltb (link k) (link c.loop-j.j)) back ∙ ap (λ k. ltb (link (a + i)) (link k)) here))))

pub returns : goal.returns
unfolding ascends
returns g c =
    let e : c.loop-j.j - 1 - c.args.a ≡ c.args.b - c.args.a - 1 = omega arith in
    rw e at c.loop-j.invariant.1
