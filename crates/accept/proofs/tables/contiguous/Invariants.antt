-- `accept::tables::contiguous` meets its contract. The loop has compared the first c ranges with the edges before them, and has the next edge. Assumes nothing.
use mathlib.Core.Path.{◌≡◌}
use Prim.Native.Nat.{◌≤◌}
use lib.Dec.{eqb}
use Rattle.accept.specs.Every.{every}
use Rattle.accept.specs.Tables.{number_at, edge as edge_at}
use Rattle.accept.proofs.tables.contiguous.Given as goal

abbrev pub invariant-loop-c : goal.invariant-loop-c
invariant-loop-c g l = (l.c ≤ l.n)
    × (l.ok ≡ every (λ k. eqb (number_at (g.N.Listed.items l.firsts) k) (edge_at (number_at (g.N.Listed.items l.firsts)) (number_at (g.N.Listed.items l.counts)) k)) l.c)
    × (l.edge ≡ edge_at (number_at (g.N.Listed.items l.firsts)) (number_at (g.N.Listed.items l.counts)) l.c)
