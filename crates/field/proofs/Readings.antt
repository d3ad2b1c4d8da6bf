-- What the definitions say, read back: which of two parts is nearer, what NaN and a capsule with equal ends do, what `project` answers, and the empty scene. Assumes nothing.
use Rattle.std.specs.Prelude.{Option, Some, None}
use mathlib.Core.Path.{◌≡◌, refl, ◌∙◌, ap, subst}
use mathlib.Core.Bool.{Bool, true, false, cond}
use Prim.Native.Nat.{ℕ, zero, suc, ◌+◌}
use native.Mathlib.Nat.{add-zero}
use lib.Ieee.{Float, nan, binary32, of_bits, neg, add, mul, div, is_nan, lt, le}
use lib.Ieee.Scale.{finite}
use Rattle.float.specs.Arithmetic.{0f, 1f}
use Rattle.float.specs.Order.{greater}
use Rattle.float.specs.Sign.{abs}
use Rattle.vector.specs.declared.Vec3.{Vec3}
use Rattle.vector.specs.Vector.{vec, zero_vec, plus, scaled, over, length_of}
use Rattle.vector.specs.Fold.{fold}
use Rattle.sdf.specs.declared.Shape.{Shape}
use Rattle.sdf.specs.declared.Shape.TheVariants.{Capsule}
use Rattle.sdf.specs.Distance.{dist as shape_dist}
use Rattle.sdf.proofs.Ends.{equal_ends}
use Rattle.tables.specs.Tables.{Scene}
use Rattle.field.specs.declared.DistHit.{DistHit}
use Rattle.field.specs.Nearest.{part_dist, nearer, nearest_part, far, dist_mat, dist}
use Rattle.field.specs.Gradient.{tap, corner, unit_or_y, normal}
use Rattle.field.specs.Projection.{confirmed, moved, project_from, project}
use Rattle.field.proofs.Chosen.{chosen}

-- the earlier stays unless the later is strictly nearer
pub tie_to_earlier : (a b : DistHit) → lt b.d a.d ≡ false → nearer a b ≡ a
unfolding nearer
tie_to_earlier a b h = rw h

-- one that is strictly nearer takes its place
pub strictly_nearer : (a b : DistHit) → lt b.d a.d ≡ true → nearer a b ≡ b
unfolding nearer
strictly_nearer a b h = rw h

-- a part whose distance is NaN never takes the place of the best
pub nan_never_nearer : (a : DistHit) (m : ℕ) → nearer a (record { d = nan; mat = m }) ≡ a
unfolding nearer lt
nan_never_nearer a m = refl

-- where the base's distance is NaN, one subtracted primitive alone decides
pub nan_base : (shape : ℕ → Shape) (b f m : ℕ) (p : Vec3) → shape_dist (shape b) p ≡ nan
    → part_dist shape (record { base = b; first = f; many = 1; mat = m }) p ≡ neg (shape_dist (shape f) p)
unfolding part_dist fold greater is_nan
nan_base shape b f m p h = ap (λ (d : Float). greater d (neg (shape_dist (shape (f + 0)) p))) h ∙ ap (λ (k : ℕ). neg (shape_dist (shape k) p)) (add-zero f)

-- a capsule with equal ends: alone it is never nearest, and one subtracted primitive leaves its own distance, negated
module _ (shape : ℕ → Shape) (b f m : ℕ) (a p : Vec3) (r : Float) (flat : shape b ≡ Capsule a a r) where
  flat_dist : shape_dist (shape b) p ≡ nan
  unfolding shape_dist
  flat_dist = rw flat (equal_ends a r p)

  pub capsule_alone : (best : DistHit) → nearer best (record { d = part_dist shape (record { base = b; first = f; many = 0; mat = m }) p; mat = m }) ≡ best
  unfolding part_dist fold
  capsule_alone best = rw flat_dist (nan_never_nearer best m)

  pub capsule_less : part_dist shape (record { base = b; first = f; many = 1; mat = m }) p ≡ neg (shape_dist (shape f) p)
  capsule_less = nan_base shape b f m p flat_dist

module _ (s : Scene) (eps diag : Float) where
  -- an answered point passes both tests
  abbrev Near : Option Vec3 → Type 0
  Near (Some q) = (lt (abs (dist s q)) eps ≡ true) × (le eps (abs (dist s q)) ≡ false)
  Near None = Unit

  -- by what the second test gave, and by what the first gave
  second : (p : Vec3) (b : Bool) → lt (abs (dist s p)) eps ≡ true → le eps (abs (dist s p)) ≡ b → Near (cond b None (Some p))
  second p true h e = tt
  second p false h e = (h, e)

  first : (p : Vec3) (r : Option Vec3) (b : Bool) → lt (abs (dist s p)) eps ≡ b → Near r → Near (cond b (confirmed s eps p) r)
  unfolding confirmed
  first p r true e n = second p _ e refl
  first p r false e n = n

  near_from : (left : ℕ) (p : Vec3) → Near (project_from s eps diag left p)
  unfolding project_from
  near_from zero p = tt
  near_from (suc left) p =
      let d = dist s p in
      first p _ _ refl (chosen Near (finite d) _ _ (chosen Near (lt diag (abs d)) _ _ tt (near_from left (moved s p))) tt)

  -- a point that `project` answers is nearer than eps to the surface, and passes the second test
  pub on_surface : (p q : Vec3) → project s p eps diag ≡ Some q → (lt (abs (dist s q)) eps ≡ true) × (le eps (abs (dist s q)) ≡ false)
  unfolding project
  on_surface p q e = subst Near e (near_from 10 p)

-- the corners of the four taps
abbrev corner_a : Vec3
corner_a = vec 1f (neg 1f) (neg 1f)

abbrev corner_b : Vec3
corner_b = vec (neg 1f) (neg 1f) 1f

abbrev corner_c : Vec3
corner_c = vec (neg 1f) 1f (neg 1f)

abbrev corner_d : Vec3
corner_d = vec 1f 1f 1f

-- the normal of four taps
abbrev joined : Vec3 → Vec3 → Vec3 → Vec3 → Vec3
joined a b c d = unit_or_y (plus (plus (plus (plus zero_vec a) b) c) d)

-- equal taps, equal normals
alike : (f : Vec3 → Vec3 → Vec3 → Vec3 → Vec3) {a b c d a' b' c' d' : Vec3} → a ≡ a' → b ≡ b' → c ≡ c' → d ≡ d' → f a b c d ≡ f a' b' c' d'
alike f p q r t = rw (p, q, r, t)

-- four taps of the greatest f32: their sum is 0, -∞, 0, so its length is +∞, and -∞ / +∞ is NaN
overflow : joined (scaled corner_a far.d) (scaled corner_b far.d) (scaled corner_c far.d) (scaled corner_d far.d) ≡ vec 0f nan 0f
unfolding unit_or_y plus scaled over length_of of_bits neg add mul div lt
overflow = refl

module _ (s : Scene) (no-planes : s.planes ≡ 0) (no-objects : s.objects ≡ 0) where
  -- nothing is near any point
  pub empty_nearest : (p : Vec3) → dist_mat s p ≡ far
  unfolding dist_mat nearest_part fold
  empty_nearest p = rw (no-planes, no-objects)

  -- so each tap is its corner times the greatest f32
  empty_tap : (p k : Vec3) → tap s p k ≡ scaled k far.d
  unfolding tap
  empty_tap p k = ap (λ (h : DistHit). scaled k h.d) (empty_nearest (plus p (scaled k (of_bits binary32 0x3a03_126f))))

  -- the normal is 0, NaN, 0 at every point
  pub empty_normal : (p : Vec3) → normal s p ≡ vec 0f nan 0f
  unfolding normal corner fold
  empty_normal p = alike joined (empty_tap p corner_a) (empty_tap p corner_b) (empty_tap p corner_c) (empty_tap p corner_d) ∙ overflow
