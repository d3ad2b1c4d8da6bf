-- What a check that hands out a value says: whether the call was refused, and which value it is. Assumes nothing.
use mathlib.Core.Path.{◌≡◌, refl}
use Rattle.std.specs.Prelude.{Ok, Err, Result}
use Rattle.accept.specs.Refusal.{outcome}
use Rattle.accept.specs.declared.refusal.Refusal.{Refusal}

-- where it hands one out, the call was not refused, and the value is x
pub handed : {A : Type 0} (x : A) (r : Result Unit Refusal) {y : A} → ◌≡◌ {A = Result A Refusal} (outcome Err (Ok x) r) (Ok y) → (r ≡ Ok tt) × (y ≡ x)
handed x (Ok u) e = (refl, cc)
handed x (Err refusal) e = absurd cc

-- and where it does not, the call was refused for that reason
pub turned_away : {A : Type 0} (x : A) (r : Result Unit Refusal) {refusal : Refusal} → ◌≡◌ {A = Result A Refusal} (outcome Err (Ok x) r) (Err refusal) → r ≡ Err refusal
turned_away x (Ok u) e = absurd cc
turned_away x (Err k) e = cc
