-- `clusters::keys::key_of` meets its contract. Each part of the number is small. Assumes nothing.
use Rattle.std.proofs.Common.{arith}
use Rattle.clusters.proofs.Numbered.{made_few}
use Rattle.clusters.proofs.keys.key_of.Goals as goal

pub overflow_mul-result : goal.overflow_mul-result
overflow_mul-result c =
    omega (arith, made_few _ _ _ _ c.requires c.cell-x.ensures c.cell-y.ensures c.cell-z.ensures)

pub overflow_add-result : goal.overflow_add-result
overflow_add-result c =
    omega (arith, made_few _ _ _ _ c.requires c.cell-x.ensures c.cell-y.ensures c.cell-z.ensures)
