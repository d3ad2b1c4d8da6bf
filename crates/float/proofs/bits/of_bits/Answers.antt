-- `float::bits::of_bits` meets its contract. The test is whether the pattern is a NaN's. Assumes nothing.
use Rattle.std.proofs.Common.{◌∙◌}
use lib.Bits.{and_mask}
use Rattle.std.proofs.lemmas.Float.{not_nan_f32_bits}
use Rattle.float.proofs.Nans.{is_nan_lem}
use Rattle.float.proofs.bits.of_bits.Goals as goal

pub returns-then-w-gt2139095040 : goal.returns-then-w-gt2139095040
returns-then-w-gt2139095040 c =
    let w = c.args.w in c.nan.ensures ∙ is_nan_lem w (rw (and_mask w 31) at c.if-w-gt2139095040.true)

pub float_from_bits-result : goal.float_from_bits-result
float_from_bits-result c =
    let w = c.args.w in not_nan_f32_bits w (rw (and_mask w 31) at c.if-w-gt2139095040.false)
