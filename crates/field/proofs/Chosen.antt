-- One of two by a test. Assumes nothing.
use mathlib.Core.Bool.{Bool, true, false, cond}

-- what holds of both arms holds of the one chosen
pub chosen : {A : Type 0} (P : A → Type 0) (b : Bool) (x y : A) → P x → P y → P (cond b x y)
chosen P true x y p q = p
chosen P false x y p q = q
