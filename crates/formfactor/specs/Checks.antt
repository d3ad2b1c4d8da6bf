-- Whether rows can be made: document 01, 'Refused calls', 2 to 6. The link slices have no need. Definitions only.
use Rattle.std.specs.Prelude.{Bool, ◌&&◌, List, [], ◌∷◌, ℕ, leb, ltb, Float, length, Result}
use Rattle.float.specs.Arithmetic.{0f}
use Rattle.vector.specs.declared.Vec3.{Vec3}
use Rattle.accept.specs.Every.{conj}
use Rattle.accept.specs.Limits.{max_surfels, max_clusters, max_amount, max_cluster_area}
use Rattle.accept.specs.Ranges.{bounds, coordinates, floats_within}
use Rattle.accept.specs.declared.refusal.Refusal.{Refusal}
use Rattle.accept.specs.declared.refusal.Refusal.TheVariants as refusal
use Rattle.accept.specs.Refusal.{checked}
use Rattle.accept.specs.Tables.{at_most, column}
use Rattle.tables.specs.Checks.{counts_within, tables_hold, shapes_within, parts_fit}
use Rattle.formfactor.specs.Lent.{Emitters, Setting}

-- 4: the columns of n surfels, and a start for each and one more; the starts are given by their length
unfoldable pub surfels_hold : ℕ → List Float → List Float → ℕ → Bool
surfels_hold n p normals starts = conj (column p n ∷ column normals n ∷ ltb n starts ∷ [])

-- the columns of the clusters, and the scratch of one number and one float each, which is given by its lengths
unfoldable pub emitters_hold : Emitters → ℕ → ℕ → Bool
emitters_hold e link scratch =
    conj
    (column e.p e.nc
    ∷ column e.n e.nc
    ∷ leb e.nc (length e.area)
    ∷ leb e.nc (length e.radius)
    ∷ leb e.nc link
    ∷ leb e.nc scratch
    ∷ [])

-- 5: places and normals of the surfels
unfoldable pub surfels_within : ℕ → List Float → List Float → Bool
surfels_within n p normals = coordinates p n && coordinates normals n

-- places, normals, areas and radii of the clusters
unfoldable pub emitters_within : Emitters → Bool
emitters_within e =
    conj
    (coordinates e.p e.nc
    ∷ coordinates e.n e.nc
    ∷ floats_within e.area e.nc 1 0f max_cluster_area
    ∷ floats_within e.radius e.nc 1 0f max_amount
    ∷ [])

-- what refuses the call with the bounds from lo to hi, if anything does
unfoldable pub check : Vec3 → Vec3 → Setting → ℕ → ℕ → ℕ → Result Unit Refusal
check lo hi t starts link scratch =
    let s = t.scene in
    let e = t.emitters in
    checked
    ((refusal.Count, conj (at_most t.n max_surfels ∷ at_most e.nc max_clusters ∷ counts_within s ∷ []))
    ∷ (refusal.Range, bounds lo hi)
    ∷ (refusal.Length, conj (tables_hold s ∷ surfels_hold t.n t.p t.normals starts ∷ emitters_hold e link scratch ∷ []))
    ∷ (refusal.Float, conj (shapes_within s ∷ surfels_within t.n t.p t.normals ∷ emitters_within e ∷ []))
    ∷ (refusal.Scene, parts_fit s)
    ∷ [])
