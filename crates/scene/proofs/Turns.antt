-- One turn of each march in the words of the code: what its calls gave, each with its equation. Assumes nothing.
use Rattle.std.specs.Prelude.{Some, None}
use mathlib.Core.Path.{◌≡◌, refl}
use mathlib.Core.Bool.{true, false}
use Prim.Native.Nat.{ℕ, zero, suc, ◌+◌}
use lib.Ieee.{Float, binary32, of_bits, lt}
use Rattle.float.specs.Arithmetic.{◌+f◌}
use Rattle.vector.specs.declared.Vec3.{Vec3}
use Rattle.field.specs.declared.DistHit.{DistHit}
use Rattle.tables.specs.Tables.{Scene}
use Rattle.field.specs.Nearest.{dist_mat, dist}
use Rattle.field.specs.Gradient.{normal}
use Rattle.scene.specs.Marching.{along, tolerance, hit_at, trace_from}
use Rattle.scene.specs.Shading.{lowered, onward, occluded, visible, shadow_from}

-- `trace`: a sample h at p, with n samples left
module _ (s : Scene) (ro rd : Vec3) (tmax : Float) (left made n : ℕ) (t : Float) (p : Vec3) (h : DistHit) (x : Float)
    (el : n ≡ suc left) (ep : p ≡ along ro rd t) (eh : h ≡ dist_mat s p) (ex : x ≡ tolerance t) where
  pub trace_hit : (v : Vec3) → v ≡ normal s p → lt h.d x ≡ true
      → record { found = Some (record { t = t; p = p; n = v; mat = h.mat }); evals = made + 5 } ≡ trace_from s ro rd tmax n made t
  unfolding trace_from hit_at
  trace_hit v ev g = rw (el, ← ep, ← eh, ← ex, g, ev, ep)

  -- the cursor is then at u, with m made
  module _ (u : Float) (m : ℕ) (eu : u ≡ t +f h.d) (em : m ≡ made + 1) (g : lt h.d x ≡ false) where
    pub trace_past : lt tmax u ≡ true → record { found = None; evals = m } ≡ trace_from s ro rd tmax n made t
    unfolding trace_from
    trace_past b = rw (el, ← ep, ← eh, ← ex, g, ← eu, ← em, b)

    pub trace_on : lt tmax u ≡ false → trace_from s ro rd tmax n made t ≡ trace_from s ro rd tmax left m u
    unfolding trace_from
    trace_on b = rw (el, ← ep, ← eh, ← ex, g, ← eu, ← em, b)

pub trace_end : (s : Scene) (ro rd : Vec3) (tmax : Float) (made : ℕ) (t : Float) → record { found = None; evals = made } ≡ trace_from s ro rd tmax 0 made t
unfolding trace_from
trace_end s ro rd tmax made t = refl

-- `soft_shadow`: a sample h at p, with n samples left
module _ (s : Scene) (ro rd : Vec3) (tmax k : Float) (left made n : ℕ) (t ph res : Float) (p : Vec3) (h : Float)
    (el : n ≡ suc left) (go : lt t tmax ≡ true) (ep : p ≡ along ro rd t) (eh : h ≡ dist s p) where
  pub shadow_touch : lt h (of_bits binary32 0x38d1_b717) ≡ true → occluded (made + 1) ≡ shadow_from s ro rd tmax k n made t ph res
  unfolding shadow_from
  shadow_touch g = rw (el, go, ← ep, ← eh, g)

  module _ (r : Float) (er : r ≡ lowered res k h ph t) (g : lt h (of_bits binary32 0x38d1_b717) ≡ false) where
    pub shadow_occluded : lt r (of_bits binary32 0x3a83_126f) ≡ true → occluded (made + 1) ≡ shadow_from s ro rd tmax k n made t ph res
    unfolding shadow_from
    shadow_occluded b = rw (el, go, ← ep, ← eh, g, ← er, b)

    pub shadow_on : lt r (of_bits binary32 0x3a83_126f) ≡ false
        → shadow_from s ro rd tmax k n made t ph res ≡ shadow_from s ro rd tmax k left (made + 1) (onward t h) h r
    unfolding shadow_from
    shadow_on b = rw (el, go, ← ep, ← eh, g, ← er, b)

pub shadow_end : (s : Scene) (ro rd : Vec3) (tmax k : Float) (made : ℕ) (t ph res : Float) → visible res made ≡ shadow_from s ro rd tmax k 0 made t ph res
unfolding shadow_from
shadow_end s ro rd tmax k made t ph res = refl

pub shadow_past : (s : Scene) (ro rd : Vec3) (tmax k : Float) (n made : ℕ) (t ph res : Float)
    → lt t tmax ≡ false → visible res made ≡ shadow_from s ro rd tmax k n made t ph res
unfolding shadow_from
shadow_past s ro rd tmax k zero made t ph res h = refl
shadow_past s ro rd tmax k (suc n) made t ph res h = rw h
