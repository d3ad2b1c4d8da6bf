-- `solve::rows::LitRows::both_light` meets its contract. The loop has summed what the first j links of either row bring. Assumes nothing.
use mathlib.Core.Path.{◌≡◌}
use native.Mathlib.Omega.{arith}
use Rattle.solve.proofs.rows.LitRows.both_light.Goals as goal

pub returns : goal.returns
returns c =
    let e : c.loop-j.j ≡ c.args.count = omega arith in
    record { first_value = rw e at c.loop-j.invariant.0; second_value = rw e at c.loop-j.invariant.1 }
