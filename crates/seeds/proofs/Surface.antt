-- Where a seed lands lies on the surface and in the box. Assumes nothing.
use Rattle.std.specs.Prelude.{Option, Some, None}
use mathlib.Core.Bool.{Bool, true, false, cond}
use mathlib.Core.Path.{◌≡◌, refl, sym, subst}
use Prim.Native.Nat.{ℕ}
use lib.Ieee.{binary32, of_bits, lt}
use Rattle.float.specs.Arithmetic.{◌*f◌}
use Rattle.float.specs.Sign.{abs}
use Rattle.vector.specs.declared.Vec3.{Vec3}
use Rattle.vector.specs.Vector.{plus, minus, times}
use Rattle.tables.specs.Tables.{Scene}
use Rattle.field.specs.Nearest.{dist}
use Rattle.field.proofs.Readings.{on_surface}
use Rattle.seeds.specs.declared.Spacing.{Spacing}
use Rattle.seeds.specs.Seeds.{seed, outside, bounded, landed}

-- what holds of an answer's point, where there is one
abbrev OfPoint : (Vec3 → Type 0) → Option Vec3 → Type 0
OfPoint P (Some p) = P p
OfPoint P None = ⊥

-- a point that is not outside the box is answered as it was found
bounded_on : (lo hi : Vec3) (q : Option Vec3) (p : Vec3) → bounded lo hi q ≡ Some p → (q ≡ Some p) × (outside lo hi p ≡ false)
unfolding bounded
bounded_on lo hi None p e = absurd (subst (OfPoint (λ q. Unit)) (sym e) tt)
bounded_on lo hi (Some r) p e = by_test (outside lo hi r) refl e
  where
    by_test : (t : Bool) → outside lo hi r ≡ t → cond t None (Some r) ≡ Some p → (Some r ≡ Some p) × (outside lo hi p ≡ false)
    by_test true h g = absurd (subst (OfPoint (λ q. Unit)) (sym g) tt)
    by_test false h g = (g, subst (OfPoint (λ q. outside lo hi q ≡ false)) g h)

-- where a seed landed is nearer to the surface than the tolerance, and no component is outside the box
pub landed_within : (scene : Scene) (s : Spacing) (i : ℕ) (p : Vec3) → landed scene s i ≡ Some p
    → (lt (abs (dist scene p)) (s.d_min *f of_bits binary32 0x3ca3_d70a) ≡ true) × (outside s.lo s.hi p ≡ false)
unfolding landed
landed_within scene s i p e =
    let from = plus s.lo (times (minus s.hi s.lo) (seed i)) in
    let b = bounded_on s.lo s.hi _ p e in
    ((on_surface scene _ _ from p b.0).0, b.1)
