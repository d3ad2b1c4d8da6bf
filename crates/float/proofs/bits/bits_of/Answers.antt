-- `float::bits::bits_of` meets its contract. There is one NaN. Assumes nothing.
use Rattle.std.proofs.Common.{sym, ◌∙◌}
use Rattle.float.proofs.Nans.{nan_bits_lem}
use Rattle.float.proofs.bits.bits_of.Goals as goal

pub returns-then-is_nan : goal.returns-then-is_nan
returns-then-is_nan c =
    nan_bits_lem c.args.x (sym c.is_nan.ensures.value ∙ c.if-is_nan.true)
