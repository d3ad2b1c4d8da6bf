-- `text::decimal` meets its contract. The digits are the last ones in base 10, as many as there are, and zeros stand after them. Assumes nothing.
use native.Mathlib.Omega.{arith}
use Rattle.text.proofs.Held.{held_text}
use Rattle.text.proofs.Spelling.{decimal-length, numeral}
use Rattle.text.proofs.Laws.{numeral_digits}
use Rattle.text.proofs.number.decimal.Goals as goal

pub spell-requires : goal.spell-requires
spell-requires c =
    omega (arith, c.places-count.ensures, decimal-length 10 c.args.n)

pub invariant_of-result : goal.invariant_of-result
invariant_of-result c =
    (held_text 10 _ _ _ (decimal-length 10 c.args.n) c.places-count.ensures (numeral c.args.n _ _ c.places-count.ensures c.spell.ensures)).0

pub returns : goal.returns
returns c =
    rw (c.spell.ensures, c.places-count.ensures) (numeral_digits c.args.n _)
