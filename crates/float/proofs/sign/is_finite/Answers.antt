-- `float::is_finite` meets its contract. It is the library's. Assumes nothing.
use Rattle.std.proofs.Common.{◌∙◌}
use Rattle.float.proofs.Signs.{finite_is}
use Rattle.float.proofs.sign.is_finite.Goals as goal

pub returns : goal.returns
returns c =
    c.is_finite.ensures.value ∙ finite_is c.args.x
