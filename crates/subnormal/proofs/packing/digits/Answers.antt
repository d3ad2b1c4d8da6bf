-- `subnormal::packing::digits` meets its contract. Assumes nothing.
use native.Mathlib.Omega.{arith}
use lib.Count.{leading_le}
use Rattle.subnormal.proofs.Apart.{digits_of}
use Rattle.subnormal.proofs.packing.digits.Goals as goal

pub overflow_sub-result : goal.overflow_sub-result
overflow_sub-result c =
    leading_le 64 c.args.p

pub returns : goal.returns
returns c =
    digits_of c.args.p (omega arith)
