-- Materials, columns and scratch stored line by line, for the programs that replay answers. Definitions only.
use Rattle.std.specs.Prelude.{ℕ, List, length, map, replicate, slice_index, Float}
use Rattle.std.specs.Float.{binary32}
use Rattle.std.specs.Float.Ieee.{of_bits}
use Rattle.replay.specs.Words.{sets_from}
use Rattle.stored_placement.specs.declared.Stored.{Stored}

-- a table of floats with what words say put into it
abbrev pub floats_put : List Float → List ℕ → List Float
floats_put table given = sets_from (map (of_bits binary32)) table given

-- these tables with one word in every place of a table, another in each
abbrev pub filled : Stored → List ℕ → Stored
filled s w =
    record s {
      columns = record { p = replicate (length s.columns.p) (of_bits binary32 (slice_index w 0)); n = replicate (length s.columns.n) (of_bits binary32 (slice_index w 1)); albedo = replicate (length s.columns.albedo) (of_bits binary32 (slice_index w 2)); area = replicate (length s.columns.area) (of_bits binary32 (slice_index w 3)) };
      light = record { direct = replicate (length s.light.direct) (of_bits binary32 (slice_index w 4)); irr = replicate (length s.light.irr) (of_bits binary32 (slice_index w 5)); rad = replicate (length s.light.rad) (of_bits binary32 (slice_index w 6)) };
      scratch = record { head = replicate (length s.scratch.head) (slice_index w 7); next = replicate (length s.scratch.next) (slice_index w 8) };
    }
