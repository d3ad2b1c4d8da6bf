-- `solve::rows::LitRows::faint_channel` meets its contract. The loop has summed channel d of what the first j links bring. Assumes nothing.
use mathlib.Core.Path.{◌≡◌}
use Prim.Native.Nat.{◌+◌}
use Rattle.solve.specs.Channels.{channel}
use Rattle.vector.specs.Fold.{total}
use Rattle.solve.specs.Held.{triple}
use Rattle.solve.specs.Lit.{rows_lit}
use Rattle.solve.specs.Bounce.{link_light}
use Rattle.solve.proofs.rows.LitRows.faint_channel.Given as goal

abbrev pub invariant-loop-j : goal.invariant-loop-j
invariant-loop-j l = l.sum ≡ channel l.d (total (λ k. link_light (rows_lit l.self) (triple l.self.light.now) (l.from + k)) l.j)
