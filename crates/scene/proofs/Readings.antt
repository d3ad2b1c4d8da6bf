-- What the definitions say, read back: how a march and a shadow begin, and the empty scene. Assumes nothing.
use Rattle.std.specs.Prelude.{None}
use mathlib.Core.Path.{◌≡◌, refl, sym, ◌∙◌, ap}
use mathlib.Core.Bool.{true, false}
use Prim.Native.Nat.{ℕ, zero, suc, ◌+◌, ◌≤◌}
use native.Mathlib.Numerals.{add-one}
use native.Mathlib.Omega.{arith}
use lib.Ieee.{Float, binary32, of_bits, of_int, add, mul, div, is_nan, lt}
use Rattle.float.specs.Arithmetic.{◌+f◌, ◌/f◌, 0f, 1f}
use Rattle.float.specs.Order.{greater, clamp}
use Rattle.vector.specs.declared.Vec3.{Vec3}
use Rattle.vector.specs.Vector.{normalize}
use Rattle.vector.specs.Tangent.{frame}
use Rattle.vector.specs.Fold.{fold}
use Rattle.tables.specs.Tables.{Scene}
use Rattle.field.specs.Nearest.{nearest_part, far, dist_mat, dist}
use Rattle.field.proofs.Chosen.{chosen}
use Rattle.scene.specs.declared.Openings.{Openings}
use Rattle.scene.specs.declared.Traced.{Traced}
use Rattle.vector.specs.Halton.{of_whole}
use Rattle.scene.specs.Marching.{along, tolerance, trace_from, trace}
use Rattle.scene.specs.Shading.{approach, visible, soft_shadow}
use Rattle.scene.specs.Directions.{direction}
use Rattle.scene.specs.Opening.{in_frame, ray_start, ray, missed_by, counted, openings, hemisphere_closure}
use Rattle.scene.proofs.Turns.{shadow_past}

-- a march never counts less than it has
made_kept : (s : Scene) (ro rd : Vec3) (tmax : Float) (left made : ℕ) (t : Float) → made ≤ (trace_from s ro rd tmax left made t).evals
unfolding trace_from
made_kept s ro rd tmax zero made t = omega arith
made_kept s ro rd tmax (suc left) made t =
    let d = dist s (along ro rd t) in
    let on = made_kept s ro rd tmax left (made + 1) (t +f d) in
    let kept : Traced → Type 0 = λ r. made ≤ r.evals in
    chosen kept (lt d (tolerance t)) _ _ (omega arith) (chosen kept (lt tmax (t +f d)) _ _ (omega arith) (omega arith))

-- and it takes its first sample whatever the ends are
first_made : (s : Scene) (ro rd : Vec3) (tmax : Float) (left : ℕ) (t : Float) → 1 ≤ (trace_from s ro rd tmax (suc left) 0 t).evals
unfolding trace_from
first_made s ro rd tmax left t =
    let d = dist s (along ro rd t) in
    let on = made_kept s ro rd tmax left 1 (t +f d) in
    let some : Traced → Type 0 = λ r. 1 ≤ r.evals in
    chosen some (lt d (tolerance t)) _ _ (omega arith) (chosen some (lt tmax (t +f d)) _ _ (omega arith) on)

-- so a trace makes at least one evaluation
pub trace_samples : (s : Scene) (ro rd : Vec3) (tmin tmax : Float) → 1 ≤ (trace s ro rd tmin tmax).evals
unfolding trace
trace_samples s ro rd tmin tmax = first_made s ro rd tmax 127 tmin

-- the visibility before the first sample, from 0 to 1
all_seen : visible 1f 0 ≡ record { visibility = 1f; evals = 0 }
unfolding visible clamp of_bits lt
all_seen = refl

-- where tmin is not below tmax, NaN at either end too, all is seen, with no evaluation
pub no_sample : (s : Scene) (ro rd : Vec3) (tmin tmax k : Float) → lt tmin tmax ≡ false
    → soft_shadow s ro rd tmin tmax k ≡ record { visibility = 1f; evals = 0 }
unfolding soft_shadow
no_sample s ro rd tmin tmax k h = sym (shadow_past s ro rd tmax k 96 0 tmin _ 1f h) ∙ all_seen

-- a sample that is not below the last one is not corrected
pub receding : (h ph : Float) → lt h ph ≡ false → approach h ph ≡ record { y = 0f; d = h }
unfolding approach
receding h ph e = rw e

-- the greatest f32 is no hit at 0.001, and 0.001 more is no farther
not_near : lt far.d (tolerance (of_bits binary32 0x3a83_126f)) ≡ false
unfolding tolerance greater of_bits mul lt is_nan
not_near = refl

no_farther : of_bits binary32 0x3a83_126f +f far.d ≡ far.d
unfolding of_bits add
no_farther = refl

-- one ray more that met nothing at its first sample
one_more : (o : Openings) (r : Traced) (m : ℕ) → o ≡ record { missed = m; evals = m } → r ≡ record { found = None; evals = 1 }
    → counted o r ≡ record { missed = suc m; evals = suc m }
unfolding counted missed_by
one_more o r m p q = rw (p, q, add-one m)

-- 16 of 16
all_open : of_whole 16 /f of_whole 16 ≡ 1f
unfolding of_bits of_int div
all_open = refl

module _ (s : Scene) (no-planes : s.planes ≡ 0) (no-objects : s.objects ≡ 0) where
  -- a march from 0.001 that is to end below the greatest f32 ends at its first sample
  empty_from : (ro rd : Vec3) (tmax : Float) (left : ℕ) → lt tmax far.d ≡ true
      → trace_from s ro rd tmax (suc left) 0 (of_bits binary32 0x3a83_126f) ≡ record { found = None; evals = 1 }
  unfolding trace_from nearest_part fold lt dist_mat
  empty_from ro rd tmax left h = rw (no-planes, no-objects, not_near, no_farther, h)

  -- so does each ray of the closure
  empty_ray : (p n : Vec3) (tmax : Float) (k : ℕ) → lt tmax far.d ≡ true → ray s p n tmax k ≡ record { found = None; evals = 1 }
  unfolding ray trace
  empty_ray p n tmax k h = empty_from (ray_start p n) (normalize (in_frame (frame n) n (direction k))) tmax 127 h

  -- and m of them
  empty_rays : (p n : Vec3) (tmax : Float) (m : ℕ) → lt tmax far.d ≡ true → openings s p n tmax m ≡ record { missed = m; evals = m }
  unfolding openings fold
  empty_rays p n tmax zero h = refl
  empty_rays p n tmax (suc m) h = one_more (openings s p n tmax m) (ray s p n tmax m) m (empty_rays p n tmax m h) (empty_ray p n tmax m h)

  -- so all of the hemisphere is open
  pub empty_open : (p n : Vec3) (tmax : Float) → lt tmax far.d ≡ true → hemisphere_closure s p n tmax ≡ record { sky = 1f; evals = 16 }
  unfolding hemisphere_closure
  empty_open p n tmax h =
      ap (λ (o : Openings). record { sky = of_whole o.missed /f of_whole 16; evals = o.evals }) (empty_rays p n tmax 16 h)
      ∙ ap (λ (x : Float). record { sky = x; evals = 16 }) all_open
