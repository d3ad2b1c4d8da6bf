-- The proof of the cycle of calls {whole_root}. The measure is the number of bits left. Assumes nothing.
use Rattle.std.proofs.Common.{arith}
use mir.Facts.{Fits-bits}
use Rattle.float.proofs.Whole.{square_lt, taken, passed}
use Rattle.float.proofs.root.+whole_root.Goals as goal

pub overflow_mul-t : goal.overflow_mul-t
overflow_mul-t t c = Fits-bits 64 tt (square_lt _ _ _ c.requires c.if-left-eq0.false)

pub whole_root-requires : goal.whole_root-requires
whole_root-requires t c = (omega arith, taken _ _ _ c.requires c.if-left-eq0.false c.if-t-n.true)

pub whole_root-requires-else-t-n : goal.whole_root-requires-else-t-n
whole_root-requires-else-t-n t c = (omega arith, passed _ _ _ c.requires c.if-left-eq0.false c.if-t-n.false)
