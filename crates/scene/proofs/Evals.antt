-- How many evaluations of the distance a march and a closure make, at most. Assumes nothing.
use Rattle.std.specs.Prelude.{Option, Some, None}
use Prim.Native.Nat.{ℕ, zero, suc, ◌+◌, ◌*◌, ◌≤◌}
use native.Mathlib.Omega.{arith}
use lib.Ieee.{Float, binary32, of_bits, lt}
use Rattle.float.specs.Arithmetic.{◌+f◌}
use Rattle.vector.specs.declared.Vec3.{Vec3}
use Rattle.vector.specs.Fold.{fold}
use Rattle.scene.specs.declared.Hit.{Hit}
use Rattle.scene.specs.declared.Openings.{Openings}
use Rattle.scene.specs.declared.Shadow.{Shadow}
use Rattle.scene.specs.declared.Traced.{Traced}
use Rattle.tables.specs.Tables.{Scene}
use Rattle.field.proofs.Chosen.{chosen}
use Rattle.field.specs.Nearest.{dist}
use Rattle.scene.specs.Marching.{along, tolerance, trace_from, trace}
use Rattle.scene.specs.Shading.{lowered, onward, visible, shadow_from, soft_shadow}
use Rattle.scene.specs.Opening.{ray, missed_by, counted, openings, hemisphere_closure}

-- one evaluation a sample, and four more for the normal of a hit
trace_from_lem : (s : Scene) (ro rd : Vec3) (tmax : Float) (left made : ℕ) (t : Float) → (trace_from s ro rd tmax left made t).evals ≤ made + left + 4
unfolding trace_from
trace_from_lem s ro rd tmax zero made t = omega arith
trace_from_lem s ro rd tmax (suc left) made t =
    let d = dist s (along ro rd t) in
    let on = trace_from_lem s ro rd tmax left (made + 1) (t +f d) in
    let few : Traced → Type 0 = λ r. r.evals ≤ made + suc left + 4 in
    chosen few (lt d (tolerance t)) _ _ (omega arith) (chosen few (lt tmax (t +f d)) _ _ (omega arith) (omega arith))

-- a ray takes at most 128 samples and a normal
pub trace_evals : (s : Scene) (ro rd : Vec3) (tmin tmax : Float) → (trace s ro rd tmin tmax).evals ≤ 132
unfolding trace
trace_evals s ro rd tmin tmax = trace_from_lem s ro rd tmax 128 0 tmin

-- one evaluation a sample
shadow_from_lem : (s : Scene) (ro rd : Vec3) (tmax k : Float) (left made : ℕ) (t ph res : Float)
    → (shadow_from s ro rd tmax k left made t ph res).evals ≤ made + left
unfolding shadow_from visible
shadow_from_lem s ro rd tmax k zero made t ph res = omega arith
shadow_from_lem s ro rd tmax k (suc left) made t ph res =
    let h = dist s (along ro rd t) in
    let r = lowered res k h ph t in
    let on = shadow_from_lem s ro rd tmax k left (made + 1) (onward t h) h r in
    let few : Shadow → Type 0 = λ a. a.evals ≤ made + suc left in
    chosen few (lt t tmax) _ _
    (chosen few (lt h (of_bits binary32 0x38d1_b717)) _ _ (omega arith) (chosen few (lt r (of_bits binary32 0x3a83_126f)) _ _ (omega arith) (omega arith)))
    (omega arith)

-- a shadow ray takes at most 96 samples
pub shadow_evals : (s : Scene) (ro rd : Vec3) (tmin tmax k : Float) → (soft_shadow s ro rd tmin tmax k).evals ≤ 96
unfolding soft_shadow
shadow_evals s ro rd tmin tmax k = shadow_from_lem s ro rd tmax k 96 0 tmin _ _

-- a ray counts at most once
missed_few : (f : Option Hit) → missed_by f ≤ 1
unfolding missed_by
missed_few (Some h) = omega arith
missed_few None = omega arith

-- one ray more
counted_few : (o : Openings) (r : Traced) (m : ℕ) → (o.missed ≤ m) × (o.evals ≤ 132 * m) → r.evals ≤ 132
    → ((counted o r).missed ≤ suc m) × ((counted o r).evals ≤ 132 * suc m)
unfolding counted
counted_few o r m h few = (omega (arith, missed_few r.found), omega arith)

-- each ray is a trace
pub ray_evals : (s : Scene) (p n : Vec3) (tmax : Float) (k : ℕ) → (ray s p n tmax k).evals ≤ 132
unfolding ray
ray_evals s p n tmax k = trace_evals s _ _ _ tmax

-- of m rays at most m meet nothing, and each makes at most 132 evaluations
pub openings_few : (s : Scene) (p n : Vec3) (tmax : Float) (m : ℕ) → ((openings s p n tmax m).missed ≤ m) × ((openings s p n tmax m).evals ≤ 132 * m)
unfolding openings fold
openings_few s p n tmax zero = (omega arith, omega arith)
openings_few s p n tmax (suc m) = counted_few (openings s p n tmax m) (ray s p n tmax m) m (openings_few s p n tmax m) (ray_evals s p n tmax m)

-- the closure's 16 rays together
pub closure_evals : (s : Scene) (p n : Vec3) (tmax : Float) → (hemisphere_closure s p n tmax).evals ≤ 2112
unfolding hemisphere_closure
closure_evals s p n tmax = (openings_few s p n tmax 16).1
