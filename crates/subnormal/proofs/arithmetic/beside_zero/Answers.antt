-- `subnormal::arithmetic::beside_zero` meets its contract. Assumes nothing.
use Rattle.std.proofs.lemmas.Float.{T_from_true}
use lib.Ieee.{lt, eq}
use Rattle.float.specs.Arithmetic.{0f, 1f}
use Rattle.subnormal.proofs.Zeros.{all_three, zero_right, zero_left}
use Rattle.subnormal.proofs.arithmetic.beside_zero.Goals as goal

pub returns-then-y-x : goal.returns-then-y-x
returns-then-y-x c =
    let t = all_three (eq c.args.y 0f) (lt 0f c.args.x) (lt c.args.x 1f) c.if-y-x.true in
    zero_right c.args.x c.args.y (T_from_true _ c.well_formed.1.0.1) t.0 t.1 t.2

pub returns-then-x-y : goal.returns-then-x-y
returns-then-x-y c =
    let t = all_three (eq c.args.x 0f) (lt 0f c.args.y) (lt c.args.y 1f) c.if-x-y.true in
    zero_left c.args.x c.args.y (T_from_true _ c.well_formed.0.1) t.0 t.1 t.2
