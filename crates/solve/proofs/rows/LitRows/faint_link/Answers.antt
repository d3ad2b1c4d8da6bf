-- `solve::rows::LitRows::faint_link` meets its contract. The calls are put together. Assumes nothing.
use mathlib.Core.List.{[]}
use mathlib.Core.Path.{ap, ◌∙◌}
use Prim.Native.Nat.{ℕ}
use lib.Ieee.{Float}
use lib.ListN.{get_or}
use Rattle.float.specs.Arithmetic.{◌*f◌}
use Rattle.float.specs.Column.{float_at}
use Rattle.accept.specs.Tables.{number_at}
use Rattle.solve.specs.Held.{triple}
use Rattle.solve.proofs.Channelled.{channel_at, channel_scaled}
use Rattle.solve.proofs.rows.LitRows.faint_link.Goals as goal

pub returns : goal.returns
returns c =
    let s = c.args.self.now in
    let i = number_at s.cluster.now c.args.k in
    let weight = float_at s.weight.now c.args.k in
    let h = c.requires.d_bound in
    c.product.ensures
    ∙ ap (λ (j : ℕ). float_at (get_or s.light.now j []) c.args.d *f weight) c.wide-c.ensures
    ∙ ap (λ (x : Float). x *f weight) (channel_at (get_or s.light.now i []) c.args.d h)
    ∙ channel_scaled (triple s.light.now i) weight c.args.d h
