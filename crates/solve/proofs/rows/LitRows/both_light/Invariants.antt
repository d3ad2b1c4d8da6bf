-- `solve::rows::LitRows::both_light` meets its contract. The loop has summed what the first j links of either row bring. Assumes nothing.
use mathlib.Core.Path.{◌≡◌}
use Prim.Native.Nat.{◌+◌}
use Rattle.vector.specs.Fold.{total}
use Rattle.solve.specs.Held.{triple}
use Rattle.solve.specs.Lit.{rows_lit}
use Rattle.solve.specs.Bounce.{link_light}
use Rattle.solve.proofs.rows.LitRows.both_light.Given as goal

abbrev pub invariant-loop-j : goal.invariant-loop-j
invariant-loop-j l = (l.first ≡ total (λ k. link_light (rows_lit l.self) (triple l.self.light.now) (l.a + k)) l.j)
    × (l.second ≡ total (λ k. link_light (rows_lit l.self) (triple l.self.light.now) (l.b + k)) l.j)
