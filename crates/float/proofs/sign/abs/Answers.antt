-- `float::abs` meets its contract. It is the library's. Assumes nothing.
use Rattle.std.proofs.Common.{◌∙◌}
use Rattle.float.proofs.Signs.{abs_is}
use Rattle.float.proofs.sign.abs.Goals as goal

pub returns : goal.returns
returns c =
    c.abs.ensures.value ∙ abs_is c.args.x
