-- `replay::line::line_length` meets its contract. Assumes nothing.
use Rattle.std.proofs.Common.{arith}
use Rattle.std.proofs.lemmas.Grind.{common_steps}
use Rattle.replay.proofs.Cut.{length_is}
use Rattle.replay.proofs.line.line_length.Goals as goal

pub returns : goal.returns
returns c = rw (length_is c.args.s.now) (grind (arith, common_steps))
