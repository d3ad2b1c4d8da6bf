-- `float::sign::nan` meets its contract. The constant's pattern is a NaN's. Assumes nothing.
use Rattle.std.proofs.Common.{refl}
use lib.Ieee.{of_bits}
use Rattle.float.proofs.sign.nan.Goals as goal

pub returns : goal.returns
unfolding of_bits
returns c =
    refl
