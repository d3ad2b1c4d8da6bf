-- Document 01, 'Refused calls': which number is returned. Definitions only.
use Rattle.std.specs.Prelude.{Bool, cond, List, [], ◌∷◌, ℕ, Result, Ok, Err}
use Rattle.accept.specs.declared.refusal.Refusal.{Refusal}
use Rattle.accept.specs.declared.refusal.Refusal.TheVariants.{File, Count, Range, Length, Float, Scene, Numbers}

-- the number of a refusal
abbrev pub number_of : Refusal → ℕ
number_of File = 1
number_of Count = 2
number_of Range = 3
number_of Length = 4
number_of Float = 5
number_of Scene = 6
number_of Numbers = 7

-- tests in the order in which they count, each with the refusal of a call that fails it: the first that failed refuses
unfoldable pub checked : List (Refusal × Bool) → Result Unit Refusal
checked [] = Ok tt
checked ((refusal, passed) ∷ l) = cond passed (checked l) (Err refusal)

-- the number of what refuses a call, 0 where nothing does
abbrev pub refusal_number : Result Unit Refusal → ℕ
refusal_number (Ok u) = 0
refusal_number (Err refusal) = number_of refusal

-- what a call leaves, from what refuses it: what it leaves where it is done, or where it is refused
abbrev pub outcome : {A : Type 0} → (Refusal → A) → A → Result Unit Refusal → A
outcome refused done (Ok u) = done
outcome refused done (Err refusal) = refused refusal
