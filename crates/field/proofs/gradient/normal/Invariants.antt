-- `field::gradient::normal` meets its contract. The loop has summed the taps of the corners before its place. Assumes nothing.
use Rattle.field.specs.Gradient.{tap, corner}
use Rattle.vector.specs.Fold.{total}
use mathlib.Core.Path.{◌≡◌}
use Rattle.field.proofs.gradient.normal.Given as goal

abbrev pub invariant-loop-k : goal.invariant-loop-k
invariant-loop-k l = l.n ≡ total (λ j. tap l.scene l.p (corner j)) l.k-index
