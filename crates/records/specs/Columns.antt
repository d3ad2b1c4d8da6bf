-- A reset of surfel light records: document 01, 'The solve' and 'What form to use where'. It is the reset of their columns. Definitions only.
use Rattle.std.specs.Prelude.{List, [], ◌∷◌, ◌++◌, Float, Result}
use Rattle.vector.specs.declared.Vec3.{Vec3}
use Rattle.vector.specs.Flat.{components}
use Rattle.accept.specs.declared.refusal.Refusal.{Refusal}
use Rattle.reset.specs.Resetting.{reset_answer}
use Rattle.records.specs.declared.Light.{Light}

-- a column of the records: this vector of each, three floats a record
unfoldable pub column : (Light → Vec3) → List Light → List Float
column part [] = []
column part (r ∷ rs) = components (part r) ++ column part rs

-- the column of their direct light, of their irr and of their rad
abbrev pub directs : List Light → List Float
directs rs = column (λ r. r.direct) rs

abbrev pub irrs : List Light → List Float
irrs rs = column (λ r. r.irr) rs

abbrev pub rads : List Light → List Float
rads rs = column (λ r. r.rad) rs

-- an answer with the three columns of what it left
abbrev pub left_in : Result Unit Refusal → List Light → Result Unit Refusal × List Float × List Float × List Float
left_in answer rs = (answer, directs rs, irrs rs, rads rs)

-- what a reset of their columns to this light answers, and the columns that it leaves
abbrev pub reset_columns : List Float → List Light → Result Unit Refusal × List Float × List Float × List Float
reset_columns light rs = reset_answer light (directs rs) (irrs rs) (rads rs)
