-- The channels of sums and products of vectors, one after the other. Assumes nothing.
use mathlib.Core.List.{List}
use mathlib.Core.Path.{◌≡◌, refl, ap, ◌∙◌}
use Prim.Native.Nat.{ℕ, zero, suc, ◌+◌, ◌<◌}
use native.Mathlib.Omega.{arith}
use lib.Ieee.{Float}
use Rattle.float.specs.Arithmetic.{◌+f◌, ◌*f◌, 0f}
use Rattle.float.specs.Column.{float_at}
use Rattle.vector.specs.declared.Vec3.{Vec3}
use Rattle.vector.specs.Flat.{vec_at}
use Rattle.vector.specs.Fold.{total}
use Rattle.vector.specs.Vector.{plus, zero_vec, scaled}
use Rattle.vector.proofs.Sums.{fold_none, fold_more}
use Rattle.solve.specs.Channels.{channel}

no_fourth : (d : ℕ) → suc (suc (suc d)) < 3 → ⊥
no_fourth d h = omega arith

channel_plus : (a b : Vec3) (d : ℕ) → d < 3 → channel d a +f channel d b ≡ channel d (plus a b)
unfolding plus
channel_plus a b zero h = refl
channel_plus a b (suc zero) h = refl
channel_plus a b (suc (suc zero)) h = refl
channel_plus a b (suc (suc (suc d))) h = absurd (no_fourth d h)

pub channel_scaled : (v : Vec3) (k : Float) (d : ℕ) → d < 3 → channel d v *f k ≡ channel d (scaled v k)
unfolding scaled
channel_scaled v k zero h = refl
channel_scaled v k (suc zero) h = refl
channel_scaled v k (suc (suc zero)) h = refl
channel_scaled v k (suc (suc (suc d))) h = absurd (no_fourth d h)

channel-zero : (d : ℕ) → d < 3 → 0f ≡ channel d zero_vec
channel-zero zero h = refl
channel-zero (suc zero) h = refl
channel-zero (suc (suc zero)) h = refl
channel-zero (suc (suc (suc d))) h = absurd (no_fourth d h)

pub channel_at : (l : List Float) (d : ℕ) → d < 3 → float_at l d ≡ channel d (vec_at l 0)
channel_at l zero h = refl
channel_at l (suc zero) h = refl
channel_at l (suc (suc zero)) h = refl
channel_at l (suc (suc (suc d))) h = absurd (no_fourth d h)

-- channel d of a sum, of no vector and with one more
pub channel_none : (f : ℕ → Vec3) (d : ℕ) → d < 3 → 0f ≡ channel d (total f 0)
channel_none f d h = channel-zero d h ∙ ap (channel d) (fold_none plus zero_vec f refl)

pub channel_more : (f : ℕ → Vec3) (d j : ℕ) → d < 3 → {s v t : Float} → s ≡ channel d (total f j) → v ≡ channel d (f j) → t ≡ s +f v → t ≡ channel d (total f (j + 1))
channel_more f d j h p q r = rw (r, p, q) (channel_plus (total f j) (f j) d h) ∙ ap (channel d) (fold_more plus zero_vec f j refl refl refl)
