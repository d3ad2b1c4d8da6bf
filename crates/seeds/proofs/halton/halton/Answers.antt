-- `seeds::halton::halton` meets its contract. With the digits left, the sum is the result, and each turn takes the lowest of them. Assumes nothing.
use Rattle.seeds.proofs.Digits.{all_left, none_left, next_left, in_float_lem, digit_in_float}
use mathlib.Core.Path.{◌≡◌}
use native.Mathlib.Nat.{div-lt_self}
use native.Mathlib.Omega.{arith}
use Rattle.seeds.proofs.halton.halton.Goals as goal

pub int_to_float-inv : goal.int_to_float-inv
int_to_float-inv c =
    in_float_lem c.args.base c.requires.base_bound

pub loop-n-init : goal.loop-n-init
loop-n-init c =
    all_left _ _

pub int_to_float-r : goal.int_to_float-r
int_to_float-r c =
    digit_in_float c.args.base c.loop-n.n c.requires.le_base c.requires.base_bound

pub loop-n-smaller : goal.loop-n-smaller
loop-n-smaller c =
    div-lt_self c.loop-n-test.true c.requires.le_base

pub loop-n-preserved : goal.loop-n-preserved
loop-n-preserved c =
    next_left _ _ _ _ _ c.requires.le_base c.loop-n-test.true c.loop-n.invariant

pub returns : goal.returns
returns c =
    let e : c.loop-n.n ≡ 0 = omega arith in
    none_left _ _ _ _ (rw e at c.loop-n.invariant)
