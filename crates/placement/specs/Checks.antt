-- Whether surfels can be placed: document 01, 'Refused calls', 2 to 6. Definitions only.
use Rattle.std.specs.Prelude.{Bool, ◌&&◌, [], ◌∷◌, ℕ, leb, length, Result}
use Rattle.float.specs.Arithmetic.{0f}
use Rattle.vector.specs.Halton.{of_whole}
use Rattle.accept.specs.Every.{conj}
use Rattle.accept.specs.Limits.{max_surfels, max_entries, max_albedo}
use Rattle.accept.specs.Ranges.{bounds, floats_within}
use Rattle.accept.specs.declared.refusal.Refusal.{Refusal}
use Rattle.accept.specs.declared.refusal.Refusal.TheVariants as refusal
use Rattle.accept.specs.Refusal.{checked}
use Rattle.accept.specs.Tables.{at_most, holds}
use Rattle.grid.specs.Cells.{cells}
use Rattle.tables.specs.Checks.{counts_within, tables_hold, shapes_within, parts_fit}
use Rattle.seeds.specs.declared.Spacing.{Spacing}
use Rattle.seeds.specs.Seeds.{spacing_of}
use Rattle.placement.specs.Kept.{dims_in}
use Rattle.placement.specs.Lent.{Request, Columns}

-- the spacing of the surfels that are asked for
unfoldable pub spacing_for : Request → Spacing
spacing_for o = spacing_of o.lo o.hi (of_whole o.target)

-- how much scratch is needed of head: a number a cell. Of next it is a number a surfel
unfoldable pub head_need : Request → ℕ
head_need o = cells (dims_in (spacing_for o))

-- 2: surfels, and the entries of the tables
unfoldable pub few_enough : Request → Bool
few_enough o =
    conj (at_most o.target max_surfels ∷ counts_within o.scene ∷ at_most o.mats max_entries ∷ [])

-- 4: columns of so many surfels
unfoldable pub columns_hold : ℕ → Columns → Bool
columns_hold target l =
    conj
    (holds (length l.p) target 3
    ∷ holds (length l.n) target 3
    ∷ holds (length l.albedo) target 3
    ∷ leb target (length l.area)
    ∷ holds (length l.direct) target 3
    ∷ holds (length l.irr) target 3
    ∷ holds (length l.rad) target 3
    ∷ [])

-- what refuses the call, if anything does; the scratch is given by its lengths
unfoldable pub check : Request → Columns → ℕ → ℕ → Result Unit Refusal
check o l head next =
    checked
    ((refusal.Count, few_enough o)
    ∷ (refusal.Range, bounds o.lo o.hi)
    ∷ (refusal.Length, conj (tables_hold o.scene ∷ holds (length o.materials) o.mats 4 ∷ columns_hold o.target l ∷ leb (head_need o) head ∷ leb o.target next ∷ []))
    ∷ (refusal.Float, shapes_within o.scene && floats_within o.materials o.mats 4 0f max_albedo)
    ∷ (refusal.Scene, parts_fit o.scene)
    ∷ [])
