-- `float::signum` meets its contract. It is the library's. Assumes nothing.
use Rattle.std.proofs.Common.{◌∙◌}
use Rattle.float.proofs.Signs.{signum_is}
use Rattle.float.proofs.sign.signum.Goals as goal

pub returns : goal.returns
returns c =
    c.signum.ensures ∙ signum_is c.args.x
