-- The library's names of a float without its sign, of its sign's unit and of a number, and two tests that clash. Assumes nothing.
use Rattle.std.specs.Float.{float_with_sign, float_signum, float_is_finite}
use Rattle.std.proofs.Common.{◌≡◌, true, false, refl, true≢false}
use lib.Ieee.{Float, nan, inf, fin}
use lib.Ieee.Scale.{finite}
use Rattle.float.specs.Sign.{abs, signum}

pub clash : {A : Type 0} → true ≡ false → A
clash p = absurd (true≢false p)

-- the library's names of what is defined here
pub abs_is : (x : Float) → float_with_sign false x ≡ abs x
unfolding float_with_sign abs
abs_is nan = refl
abs_is (inf s) = refl
abs_is (fin s m e) = refl

pub signum_is : (x : Float) → float_signum x ≡ signum x
unfolding float_signum signum
signum_is nan = refl
signum_is (inf s) = refl
signum_is (fin s m e) = refl

pub finite_is : (x : Float) → float_is_finite x ≡ finite x
unfolding float_is_finite
finite_is nan = refl
finite_is (inf s) = refl
finite_is (fin s m e) = refl
