-- `clusters::keys::vector_at` meets its contract. Chunk i of the slice is its vector i. Assumes nothing.
use mathlib.Core.List.{[]}
use native.Mathlib.Omega.{arith}
use Rattle.vector.proofs.Cut.{cut_below, cut_at}
use Rattle.clusters.proofs.keys.vector_at.Goals as goal

pub bounds-vectors-i : goal.bounds-vectors-i
bounds-vectors-i c = cut_below c.args.s.now c.as_chunks.ensures.front c.args.i c.requires

pub returns : goal.returns
returns c = cut_at c.args.s.now c.as_chunks.ensures.front c.args.i c.requires _ c.from.ensures
