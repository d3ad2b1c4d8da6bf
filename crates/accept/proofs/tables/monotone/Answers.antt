-- `accept::tables::monotone` meets its contract. The loop has compared the starts before the one at place i with the next. Assumes nothing.
use mathlib.Core.Path.{◌≡◌, ap}
use Prim.Native.Nat.{◌+◌, ◌-◌}
use native.Mathlib.Omega.{arith}
use lib.Dec.{leb}
use Rattle.accept.specs.Tables.{monotone, number_at}
use Rattle.accept.proofs.Every.{every_none, every_more}
use Rattle.accept.proofs.tables.monotone.Goals as goal

pub loop-i-init : goal.loop-i-init
loop-i-init g c =
    (omega arith, every_none _)

pub loop-i-preserved : goal.loop-i-preserved
loop-i-preserved g c =
    let i = c.loop-i.i - 1 in
    let start = number_at (g.N.Listed.items c.args.starts) in
    let next : c.loop-i.i + 1 - 1 ≡ i + 1 = omega arith in
    let here : c.loop-i.i ≡ i + 1 = omega arith in
    (omega arith, rw next (every_more _ i c.loop-i.invariant.1 (rw (c.number.ensures, c.number-in-loop-i.ensures) (ap (λ k. leb (start i) (start k)) here))))

pub returns : goal.returns
unfolding monotone
returns g c =
    let e : c.loop-i.i - 1 ≡ c.args.n = omega arith in
    rw (c.wide.ensures, c.number-2.ensures, c.number-3.ensures, c.loop-i.invariant.1, e)
