-- A room stored line by line, for the programs that replay answers. Definitions only.
use Rattle.std.specs.Prelude.{length, replicate, Float}
use Rattle.stored_room.specs.declared.Stored.{Stored}

-- a room with one float in every place that a solve can write
abbrev pub filled : Stored → Float → Stored
filled s x =
    record s {
      irr = replicate (length s.irr) x;
      rad = replicate (length s.rad) x;
      scratch = replicate (length s.scratch) x;
    }
