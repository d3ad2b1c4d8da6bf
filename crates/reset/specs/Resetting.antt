-- A reset: document 01, 'The solve' (from `light_surfels`) and 'Refused calls', 2, 4 and 5. It has no count: the lists are of one length, three floats a surfel. Definitions only.
use Rattle.std.specs.Prelude.{Bool, List, [], ◌∷◌, ℕ, ◌*◌, ◌%◌, eqb, Float, length, replicate, Result, Ok, Err}
use Rattle.float.specs.Arithmetic.{0f}
use Rattle.accept.specs.Every.{conj}
use Rattle.accept.specs.Limits.{max_surfels, max_amount}
use Rattle.accept.specs.Ranges.{floats_within}
use Rattle.accept.specs.declared.refusal.Refusal.{Refusal}
use Rattle.accept.specs.declared.refusal.Refusal.TheVariants as refusal
use Rattle.accept.specs.Refusal.{checked, outcome}
use Rattle.accept.specs.Tables.{at_most}

-- 2: no list has more than three floats for each of 400,000 surfels; the lists are given by their lengths
abbrev pub lists_within : ℕ → ℕ → ℕ → ℕ → Bool
lists_within light direct irr rad =
    conj (at_most light (3 * max_surfels) ∷ at_most direct (3 * max_surfels) ∷ at_most irr (3 * max_surfels) ∷ at_most rad (3 * max_surfels) ∷ [])

-- 4: the lists are of one length, a multiple of three
abbrev pub lengths_equal : ℕ → ℕ → ℕ → ℕ → Bool
lengths_equal light direct irr rad = conj (eqb (light % 3) 0 ∷ eqb direct light ∷ eqb irr light ∷ eqb rad light ∷ [])

-- why a reset to this light is refused, if it is
unfoldable pub check : List Float → ℕ → ℕ → ℕ → Result Unit Refusal
check light direct irr rad =
    checked ((refusal.Count, lists_within (length light) direct irr rad)
    ∷ (refusal.Length, lengths_equal (length light) direct irr rad)
    ∷ (refusal.Float, floats_within light (length light) 1 0f max_amount)
    ∷ [])

-- the answer, direct, irr and rad: direct and rad become the light, irr zero
unfoldable pub reset_answer : List Float → List Float → List Float → List Float → Result Unit Refusal × List Float × List Float × List Float
reset_answer light direct irr rad =
    outcome (λ refusal. (Err refusal, direct, irr, rad)) (Ok tt, light, replicate (length irr) 0f, light)
    (check light (length direct) (length irr) (length rad))
