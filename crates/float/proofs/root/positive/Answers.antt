-- `float::root::positive` meets its contract. A subnormal is shifted up to 24 bits, a normal number has them. Assumes nothing.
use Rattle.std.proofs.Common.{arith}
use Rattle.float.proofs.Split.{z_ge, z_le, ready_small, done_small, ready_normal, done_normal}
use Rattle.float.proofs.root.positive.Goals as goal

pub overflow_sub-s : goal.overflow_sub-s
overflow_sub-s c =
    omega (arith, z_ge c.args.b c.requires.0 c.if-field-eq0.true)

pub overflow_shl-fraction : goal.overflow_shl-fraction
overflow_shl-fraction c =
    omega (arith, z_le c.args.b c.requires.0 c.if-field-eq0.true)

pub overflow_sub-s-then-field-eq0 : goal.overflow_sub-s-then-field-eq0
overflow_sub-s-then-field-eq0 c =
    omega (arith, z_le c.args.b c.requires.0 c.if-field-eq0.true)

pub rounded-requires : goal.rounded-requires
rounded-requires c =
    let d = ready_small c.args.b c.requires.0 c.if-field-eq0.true in
    let l = z_le c.args.b c.requires.0 c.if-field-eq0.true in
    (d.0, d.1, omega arith, omega arith)

pub rounded-requires-else-field-eq0 : goal.rounded-requires-else-field-eq0
rounded-requires-else-field-eq0 c =
    let d = ready_normal c.args.b c.requires.1 c.if-field-eq0.false in (d.0, d.1, omega arith, omega arith)

pub returns-then-field-eq0 : goal.returns-then-field-eq0
returns-then-field-eq0 c =
    done_small c.args.b c.requires.0 c.if-field-eq0.true c.rounded.result c.rounded.ensures

pub returns-else-field-eq0 : goal.returns-else-field-eq0
returns-else-field-eq0 c =
    done_normal c.args.b c.requires.1 c.if-field-eq0.false c.rounded-else-field-eq0.result c.rounded-else-field-eq0.ensures
