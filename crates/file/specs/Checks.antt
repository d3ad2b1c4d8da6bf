-- Whether a room file is accepted: document 01, 'Refused calls', 1, 2, 3, 5 and 7. The tests of what it holds are those of a solve and a reading. Definitions only.
use Rattle.std.specs.Prelude.{Bool, ◌&&◌, List, [], ◌∷◌, ℕ, ◌*◌, leb, eqb, length, Result}
use Rattle.accept.specs.Every.{conj}
use Rattle.accept.specs.Limits.{max_surfels, min_file}
use Rattle.accept.specs.Ranges.{coordinates}
use Rattle.accept.specs.Refusal.{checked}
use Rattle.accept.specs.declared.refusal.Refusal.{Refusal}
use Rattle.accept.specs.declared.refusal.Refusal.TheVariants as refusal
use Rattle.accept.specs.Tables.{at_most}
use Rattle.grid.specs.Checks.{sized}
use Rattle.surfel.specs.Checks.{radius_within}
use Rattle.transfer.specs.Checks.{counts_within, floats_fit, numbers_fit}
use Rattle.file.specs.declared.ProbeBox.{ProbeBox}
use Rattle.file.specs.declared.Counts.{Counts}
use Rattle.file.specs.Words.{word_in}
use Rattle.file.specs.Blocks.{counts_in, surfels_from, clusters_from, members_from, starts_from, links_from, probes_from, end_of}
use Rattle.file.specs.Rooms.{room_of_file, points_of_file, normals_of_file, box_of_file, probes_of_file}

-- 1: from 64 to `most` bytes, form 1, each offset and the length what the counts give, the two spare words zero. Offsets and the length are in bytes
unfoldable pub formed : List ℕ → ℕ → Bool
formed b most =
    let c = counts_in b in
    conj (leb min_file (length b)
    ∷ leb (length b) most
    ∷ eqb (word_in b 0) 1
    ∷ eqb (word_in b 7) (4 * surfels_from)
    ∷ eqb (word_in b 8) (4 * clusters_from c)
    ∷ eqb (word_in b 9) (4 * members_from c)
    ∷ eqb (word_in b 10) (4 * starts_from c)
    ∷ eqb (word_in b 11) (4 * links_from c)
    ∷ eqb (word_in b 12) (4 * probes_from c)
    ∷ eqb (word_in b 13) (4 * end_of c)
    ∷ eqb (length b) (4 * end_of c)
    ∷ eqb (word_in b 14) 0
    ∷ eqb (word_in b 15) 0
    ∷ [])

-- 2: the counts and the limit of bounces
unfoldable pub few_enough : Counts → Bool
few_enough c = counts_within c.surfels c.clusters c.members c.links c.limit && at_most c.probes max_surfels

-- 3: the box, the side of a cell and the radius
unfoldable pub boxed : ProbeBox → Bool
boxed x = sized x.lo x.hi x.cell && radius_within x.radius

-- 5: points and normals of surfels and probes are coordinates, and the floats of the room are those that a solve takes
unfoldable pub floats_pass : List ℕ → Bool
floats_pass b =
    let r = room_of_file b in
    let q = probes_of_file b in
    conj (coordinates (points_of_file b) r.n
    ∷ coordinates (normals_of_file b) r.n
    ∷ floats_fit r
    ∷ coordinates q.p q.count
    ∷ coordinates q.normals q.count
    ∷ [])

-- 7: the numbers of the room fit together as a solve needs them
unfoldable pub numbers_pass : List ℕ → Bool
numbers_pass b = numbers_fit (room_of_file b)

-- the tests in their order, each with the refusal of a file that fails it; a file of over `most` bytes fails the first, and the call's own test of `Length` is `lent`
abbrev pub tests : List ℕ → ℕ → Bool → List (Refusal × Bool)
tests b most lent =
    (refusal.File, formed b most)
    ∷ (refusal.Count, few_enough (counts_in b))
    ∷ (refusal.Range, boxed (box_of_file b))
    ∷ (refusal.Length, lent)
    ∷ (refusal.Float, floats_pass b)
    ∷ (refusal.Numbers, numbers_pass b)
    ∷ []

-- what refuses the file, if anything does
unfoldable pub check : List ℕ → ℕ → Bool → Result Unit Refusal
check b most lent = checked (tests b most lent)
