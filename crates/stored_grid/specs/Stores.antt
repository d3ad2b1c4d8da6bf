-- A grid, its surfels and its probes stored line by line, for the programs that replay answers. Definitions only.
use Rattle.std.specs.Prelude.{ℕ, List, length, replicate, slice_index}
use Rattle.std.specs.Float.{binary32}
use Rattle.std.specs.Float.Ieee.{of_bits}
use Rattle.grid.specs.declared.Space.{Space}
use Rattle.replay.specs.Vectors.{vector_of}
use Rattle.stored_grid.specs.declared.Stored.{Stored}

-- the box that words say, and the side of its cells
abbrev pub space_of : List ℕ → Space
space_of w =
    record {
      lo = vector_of (slice_index w 0) (slice_index w 1) (slice_index w 2);
      hi = vector_of (slice_index w 3) (slice_index w 4) (slice_index w 5);
      cell = of_bits binary32 (slice_index w 6);
    }

-- one word in every place that a call can write
abbrev pub filled : Stored → ℕ → Stored
filled s w =
    record s {
      cells = record s.cells { starts = replicate (length s.cells.starts) w; items = replicate (length s.cells.items) w };
      list = replicate (length s.list) w;
      seen = replicate (length s.seen) w;
      light = replicate (length s.light) (of_bits binary32 w);
    }
