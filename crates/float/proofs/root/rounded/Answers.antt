-- `float::root::rounded` meets its contract. Twice the root is taken whole, so adding 1 and halving rounds it. Assumes nothing.
use Rattle.std.proofs.Common.{arith}
use mir.Facts.{Fits-below}
use Rattle.float.proofs.Rounding.{shift_le, between, h_lt, rounded_is}
use Rattle.float.proofs.root.rounded.Goals as goal

pub overflow_add-wide : goal.overflow_add-wide
overflow_add-wide c =
    Fits-below tt (shift_le _ _ c.requires)

pub overflow_cast-wide-2 : goal.overflow_cast-wide-2
overflow_cast-wide-2 c =
    Fits-below tt (shift_le _ _ c.requires)

pub overflow_shl-wide : goal.overflow_shl-wide
overflow_shl-wide c =
    omega (arith, shift_le _ _ c.requires)

pub whole_root-requires : goal.whole_root-requires
whole_root-requires c =
    between _ _ c.requires

pub overflow_add-q : goal.overflow_add-q
overflow_add-q c =
    omega (arith, h_lt _ _ c.requires _ c.whole_root.ensures)

pub returns : goal.returns
returns c =
    rw c.fraction.ensures (rounded_is _ _ c.requires _ c.whole_root.ensures)
