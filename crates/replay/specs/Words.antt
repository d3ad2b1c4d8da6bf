-- Words put together one after the other, for the programs that replay answers. Definitions only.
use Rattle.std.specs.Prelude.{cond, ℕ, ltb, List, [], ◌∷◌, ◌++◌, length, ◌-◌, ◌%◌, replicate, Result, Ok, Err}
use Rattle.std.proofs.lemmas.List.Edits.{sets}
use Rattle.accept.specs.Refusal.{number_of}
use Rattle.accept.specs.declared.refusal.Refusal.{Refusal}

-- no words
abbrev pub none : List ℕ
none = []

-- one more word; unchanged where there are 16
abbrev pub with : List ℕ → ℕ → List ℕ
with r w = cond (ltb (length r) 16) (r ++ (w ∷ [])) r

-- 0, which begins each answer that is no refusal
abbrev pub answered : List ℕ
answered = with none 0

-- the words of an answer, or the refusal's number alone
abbrev pub told : Result (List ℕ) Refusal → List ℕ
told (Ok words) = words
told (Err refusal) = with none (number_of refusal)

-- sixteen words: those given, and zeros after them
abbrev pub padded : List ℕ → List ℕ
padded given = given ++ replicate (16 - length given) 0

-- how many were counted, as far as a word holds it, after 0; or the refusal's number alone
abbrev pub counted : Result ℕ Refusal → List ℕ
counted (Ok count) = with (with none 0) (count % 4294967296)
counted (Err refusal) = with none (number_of refusal)

-- a table with what words say put into it: the words after the first, from the place on that the first names
abbrev pub sets_from : {X : Type 0} → (List ℕ → List X) → List X → List ℕ → List X
sets_from read table [] = table
sets_from read table (at ∷ words) = sets table at (read words)
