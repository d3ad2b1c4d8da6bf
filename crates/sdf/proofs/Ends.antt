-- A capsule with equal ends is NaN at every point (document 01, 'Distance and marching'): its axis is 0 or NaN in each component, so the quotient that says where
-- along it the nearest point lies is NaN. Assumes nothing.
use mathlib.Core.Path.{◌≡◌, refl, ◌∙◌}
use mathlib.Core.Bool.{Bool, true, false, not}
use mathlib.Core.Logic.{◌⊎◌, inl, inr}
use Prim.Native.Nat.{ℕ, ◌*◌, ◌-◌, ◌<◌}
use native.Mathlib.Nat.{mul-zero, mul-pos}
use native.Mathlib.Omega.{arith}
use lib.IntN.{pos}
use lib.Ieee.{Float, nan, inf, fin, binary32, up, down, neg, add, sub, mul, div, lt, round, sum, of_bits}
use lib.Ieee.Fits.{down_pos}
use lib.Ieee.Scale.{round_same}
use borrow.Author.Tests.{le-ltb}
use Rattle.float.specs.Arithmetic.{◌+f◌, ◌-f◌, ◌*f◌, ◌/f◌, 0f}
use Rattle.float.specs.Order.{clamp}
use Rattle.float.specs.Root.{square_root}
use Rattle.vector.specs.declared.Vec3.{Vec3}
use Rattle.vector.specs.Vector.{vec, dot, minus, scaled, length_of}
use Rattle.sdf.specs.Solids.{capsule}

-- ---- NaN on the right

plus-nan : (x : Float) → x +f nan ≡ nan
unfolding add
plus-nan nan = refl
plus-nan (inf s) = refl
plus-nan (fin s m e) = refl

minus-nan : (x : Float) → x -f nan ≡ nan
unfolding sub
minus-nan x = plus-nan x

times-nan : (x : Float) → x *f nan ≡ nan
unfolding mul
times-nan nan = refl
times-nan (inf s) = refl
times-nan (fin s m e) = refl

over-nan : (x : Float) → x /f nan ≡ nan
unfolding div
over-nan nan = refl
over-nan (inf s) = refl
over-nan (fin s m e) = refl

-- ---- zeros

round_zero : (s : Bool) (d : ℕ) → 0 < d → round binary32 s 0 d ≡ fin s 0 (pos 0)
unfolding round
round_zero s d h = round_same binary32 s 0 d 0 1 h (omega arith) (omega arith) ∙ refl

cancelled : (s : Bool) (a d : ℕ) → 0 < d → sum binary32 s a (not s) a d ≡ 0f
unfolding sum of_bits
cancelled true a d h = let e : a - a ≡ 0 = omega arith in rw (le-ltb a a (omega arith), e) (round_zero false d h)
cancelled false a d h = let e : a - a ≡ 0 = omega arith in rw (le-ltb a a (omega arith), e) (round_zero false d h)

less_itself : (x : Float) → (x -f x ≡ nan) ⊎ (x -f x ≡ 0f)
unfolding sub add neg
less_itself nan = inl refl
less_itself (inf true) = inl refl
less_itself (inf false) = inl refl
less_itself (fin s m e) = inr (cancelled s (m * up e * down e) (down e * down e) (mul-pos (down_pos e) (down_pos e)))

-- a zero of either sign, or NaN
abbrev Nought : Float → Type 0
Nought x = (x ≡ nan) ⊎ ((x ≡ 0f) ⊎ (x ≡ neg 0f))

times_zero : (x : Float) → Nought (x *f 0f)
unfolding mul neg of_bits
times_zero nan = inl refl
times_zero (inf s) = inl refl
times_zero (fin true m e) = inr (inr (rw (mul-zero (m * up e)) (round_zero true (down e * 1) (mul-pos (down_pos e) (omega arith)))))
times_zero (fin false m e) = inr (inl (rw (mul-zero (m * up e)) (round_zero false (down e * 1) (mul-pos (down_pos e) (omega arith)))))

plus_nought : {x y : Float} → Nought x → Nought y → Nought (x +f y)
unfolding add neg of_bits
plus_nought (inl p) q = inl (rw p)
plus_nought (inr (inl p)) (inl q) = inl (rw (p, q))
plus_nought (inr (inl p)) (inr (inl q)) = inr (inl (rw (p, q)))
plus_nought (inr (inl p)) (inr (inr q)) = inr (inl (rw (p, q)))
plus_nought (inr (inr p)) (inl q) = inl (rw (p, q))
plus_nought (inr (inr p)) (inr (inl q)) = inr (inl (rw (p, q)))
plus_nought (inr (inr p)) (inr (inr q)) = inr (inr (rw (p, q)))

over_zero : {x : Float} → Nought x → x /f 0f ≡ nan
unfolding div neg of_bits
over_zero (inl p) = rw p
over_zero (inr (inl p)) = rw p
over_zero (inr (inr p)) = rw p

-- ---- the capsule

-- where along an axis of zeros and NaNs the nearest point lies
along : (p : Vec3) {u v w : Float} → (u ≡ nan) ⊎ (u ≡ 0f) → (v ≡ nan) ⊎ (v ≡ 0f) → (w ≡ nan) ⊎ (w ≡ 0f) → dot p (vec u v w) /f dot (vec u v w) (vec u v w) ≡ nan
unfolding dot add mul of_bits
along p (inl a) b c = rw a (over-nan _)
along p (inr a) (inl b) c = rw (a, b) (over-nan _)
along p (inr a) (inr b) (inl c) = rw (a, b, c) (over-nan _)
along p (inr a) (inr b) (inr c) = rw (a, b, c) (over_zero (plus_nought (plus_nought (times_zero p.x) (times_zero p.y)) (times_zero p.z)))

pub equal_ends : (a : Vec3) (r : Float) (p : Vec3) → capsule a a r p ≡ nan
unfolding capsule minus clamp lt of_bits scaled length_of dot sub add mul square_root
equal_ends a r p = rw (along (minus p a) (less_itself a.x) (less_itself a.y) (less_itself a.z), times-nan (a.x -f a.x), minus-nan (p.x -f a.x))
