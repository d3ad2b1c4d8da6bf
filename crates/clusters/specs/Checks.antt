-- Whether surfels are accepted for clusters: document 01, 'Refused calls', 2, 3, 4 and 5. Definitions only.
use Rattle.std.specs.Prelude.{Bool, [], ◌∷◌, ℕ, leb, length, Result}
use Rattle.float.specs.Arithmetic.{0f}
use Rattle.vector.specs.declared.Vec3.{Vec3}
use Rattle.accept.specs.Every.{conj}
use Rattle.accept.specs.Limits.{max_surfels, min_resolution, max_resolution, max_amount}
use Rattle.accept.specs.Ranges.{bounds, coordinates, floats_within}
use Rattle.accept.specs.Refusal.{checked}
use Rattle.accept.specs.declared.refusal.Refusal.{Refusal}
use Rattle.accept.specs.declared.refusal.Refusal.TheVariants.{Count, Range, Length, Float}
use Rattle.accept.specs.Tables.{at_most, holds, column}
use Rattle.clusters.specs.declared.columns.Lengths.{Lengths}
use Rattle.clusters.specs.Lent.{Surfels, Columns}

-- 3: the box and the resolution
unfoldable pub voxels_fit : Vec3 → Vec3 → ℕ → Bool
voxels_fit lo hi res = conj (bounds lo hi ∷ leb min_resolution res ∷ leb res max_resolution ∷ [])

-- 4: the columns of n surfels
unfoldable pub surfels_hold : Surfels → Bool
surfels_hold s = conj (column s.p s.n ∷ column s.normals s.n ∷ leb s.n (length s.area) ∷ [])

-- how long the columns of the clusters are, and the scratch, which is given by its lengths
abbrev pub lengths_of : Columns → ℕ → ℕ → Lengths
lengths_of l order spare =
    record {
      p = length l.p;
      n = length l.n;
      area = length l.area;
      radius = length l.radius;
      first = length l.first;
      count = length l.count;
      member = length l.member;
      order = order;
      spare = spare;
    }

-- they hold n clusters and n members, and n numbers in each slice of the scratch
unfoldable pub lengths_hold : ℕ → Lengths → Bool
lengths_hold n l =
    conj
    (holds l.p n 3 ∷ holds l.n n 3 ∷ leb n l.area ∷ leb n l.radius ∷ leb n l.first ∷ leb n l.count ∷ leb n l.member ∷ leb n l.order ∷ leb n l.spare ∷ [])

-- 5: places, normals and areas
unfoldable pub floats_fit : Surfels → Bool
floats_fit s = conj (coordinates s.p s.n ∷ coordinates s.normals s.n ∷ floats_within s.area s.n 1 0f max_amount ∷ [])

-- what refuses the call
unfoldable pub check : Surfels → Vec3 → Vec3 → ℕ → Lengths → Result Unit Refusal
check s lo hi res l =
    checked
    ((Count, at_most s.n max_surfels)
    ∷ (Range, voxels_fit lo hi res)
    ∷ (Length, conj (surfels_hold s ∷ lengths_hold s.n l ∷ []))
    ∷ (Float, floats_fit s)
    ∷ [])
