-- `text::number::spell` meets its contract. The digits that are left, with what out holds after them, are all the digits and what out held after them. Assumes nothing.
use mathlib.Core.Path.{◌≡◌, refl, ◌∙◌}
use native.Mathlib.Nat.{mod-lt}
use native.Mathlib.Omega.{arith}
use lib.ListN.{length-set}
use borrow.Author.Rules.{rules}
use Rattle.text.specs.Digits.{last_digits}
use Rattle.text.proofs.Spelling.{digit_put}
use Rattle.text.proofs.number.spell.Goals as goal

pub loop-i-init : goal.loop-i-init
loop-i-init c =
    (search rules, refl, refl)

pub glyph-requires : goal.glyph-requires
glyph-requires c =
    omega (arith, c.requires, mod-lt c.loop-i.rest c.requires.0)

pub loop-i-preserved : goal.loop-i-preserved
loop-i-preserved c = (
  search rules,
  simp length-set c.loop-i.invariant.1,
  rw c.glyph.ensures (digit_put c.args.base c.loop-i.i c.loop-i.rest c.loop-i.out (search rules) (omega (arith, c.requires)) ∙ c.loop-i.invariant.2),
)

pub returns : goal.returns
unfolding last_digits
returns c =
    let e : c.loop-i.i ≡ 0 = omega arith in rw e at c.loop-i.invariant.2
