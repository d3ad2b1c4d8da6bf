-- A scene stored line by line, for the programs that replay answers. Definitions only.
use Rattle.std.specs.Prelude.{◌≡◌, ◌⊎◌, codes, ℕ, ◌*◌, List, slice_index, slice_range, map}
use Rattle.std.proofs.lemmas.List.Edits.{sets}
use Rattle.std.specs.Float.{binary32}
use Rattle.std.specs.Float.Ieee.{of_bits}
use Rattle.stored.specs.declared.Stored.{Stored}

-- a line of this name stores something
abbrev pub IsStored : List ℕ → Type 0
IsStored name = (name ≡ codes "counts") ⊎ (name ≡ codes "prim") ⊎ (name ≡ codes "plane") ⊎ (name ≡ codes "object")

-- the scene with these counts
abbrev pub with_counts : Stored → List ℕ → Stored
with_counts s w = record s { prims = slice_index w 0; planes = slice_index w 1; objects = slice_index w 2 }

-- the scene with a primitive's kind and its eight floats stored
abbrev pub with_prim : Stored → List ℕ → Stored
with_prim s w =
    record s {
      kinds = sets s.kinds (slice_index w 0) (slice_range w 1 2);
      lengths = sets s.lengths (8 * slice_index w 0) (map (of_bits binary32) (slice_range w 2 10));
    }

-- the scene with a plane's, or an object's, four numbers stored
abbrev pub with_plane : Stored → List ℕ → Stored
with_plane s w = record s { plane_parts = sets s.plane_parts (4 * slice_index w 0) (slice_range w 1 5) }

abbrev pub with_object : Stored → List ℕ → Stored
with_object s w = record s { object_parts = sets s.object_parts (4 * slice_index w 0) (slice_range w 1 5) }
