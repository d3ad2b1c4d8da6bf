-- `text::number::places` meets its contract. The power of ten below a number says how many digits it takes; 0 takes one. Assumes nothing.
use native.Mathlib.Omega.{arith}
use lib.ListN.{length}
use mathlib.Core.Path.{ap}
use Rattle.text.proofs.Laws.{power-length}
use Rattle.text.proofs.Spelling.{one_digit}
use Rattle.text.proofs.number.places.Goals as goal

pub returns-in-Some : goal.returns-in-Some
returns-in-Some c =
    power-length c.args.n c.in-Some.power (omega arith) c.in-Some.ensures.power_le c.in-Some.ensures.next_power_gt

pub returns-in-None : goal.returns-in-None
returns-in-None c =
    let z = c.in-None.ensures.none in
    omega (arith, ap length (one_digit 9 c.args.n (omega arith)))
