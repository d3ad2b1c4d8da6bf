-- `vector::flat::put_all` meets its contract. What is stored so far, with the stores that are left, is what all of them make. Assumes nothing.
use Rattle.std.proofs.Common.{◌≡◌, ◌∙◌, sym, arith, drop, ◌+◌, take}
use Rattle.std.proofs.lemmas.Grind.{common_steps}
use Rattle.vector.proofs.Items.{sets_none, sets_next}
use Rattle.vector.proofs.flat.put_all.Goals as goal

pub loop-k-preserved : goal.loop-k-preserved
loop-k-preserved g c =
    rw c.item-item.is (sets_next c.loop-k.s c.args.at c.loop-k.k c.min-places.result c.args.items.now c.item-item.result c.loop-k-test.true ∙ c.loop-k.invariant)

pub returns : goal.returns
returns g c =
    sym (sets_none c.loop-k.s (c.args.at + c.loop-k.k) (drop c.loop-k.k c.args.items.now) (grind (arith, common_steps))) ∙ c.loop-k.invariant
