-- `scene::opening::openings` meets its contract. The loop has counted the first rays, each in its direction of the table. Assumes nothing.
use mathlib.Core.Path.{◌≡◌}
use Prim.Native.Nat.{ℕ, ◌*◌, ◌≤◌, ◌<◌}
use lib.Ieee.{Float}
use native.Mathlib.Omega.{arith}
use Rattle.vector.specs.declared.Vec3.{Vec3}
use Rattle.vector.specs.Vector.{normalize}
use Rattle.vector.specs.Tangent.{frame}
use Rattle.vector.proofs.Sums.{fold_more}
use Rattle.tables.specs.Tables.{Scene}
use Rattle.scene.specs.declared.Traced.{Traced}
use Rattle.scene.specs.Marching.{trace}
use Rattle.scene.specs.Opening.{in_frame, offset, ray_start, ray, openings}
use Rattle.scene.proofs.Directions.{tabled, tabled_is}
use Rattle.scene.proofs.Evals.{openings_few, ray_evals}
use Rattle.scene.proofs.opening.openings.Goals as goal

-- the ray in the direction of row k is ray k
ray_of : (s : Scene) (p n : Vec3) (tmax : Float) (k : ℕ) {d : Vec3} {r : Traced} → k < 16 → d ≡ tabled k
    → r ≡ trace s (ray_start p n) (normalize (in_frame (frame n) n d)) offset tmax → r ≡ ray s p n tmax k
unfolding ray
ray_of s p n tmax k h e q = rw (q, e, tabled_is k h)

pub counted-o-requires : goal.counted-o-requires
counted-o-requires c =
    let k = c.loop-bits.bits-index in
    let e = ray_of _ _ _ _ k c.loop-bits-test.true c.direction.ensures c.ray.ensures in
    let few : (c.loop-bits.o.missed ≤ k) × (c.loop-bits.o.evals ≤ 132 * k) = rw c.loop-bits.invariant.1 (openings_few _ _ _ _ _) in
    let one : c.ray.result.evals ≤ 132 = rw e (ray_evals _ _ _ _ _) in
    record { missed_bound = omega (arith, few); evals_bound = omega (arith, few); evals_bound_2 = one }

pub loop-bits-preserved : goal.loop-bits-preserved
unfolding openings
loop-bits-preserved c =
    let e = ray_of _ _ _ _ c.loop-bits.bits-index c.loop-bits-test.true c.direction.ensures c.ray.ensures in
    (omega arith, fold_more _ _ _ _ c.loop-bits.invariant.1 e c.counted-o.ensures)
