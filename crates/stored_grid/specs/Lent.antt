-- How much of each table a line says is lent, for the programs that replay answers. Definitions only.
use Rattle.std.specs.Prelude.{ℕ, List, slice_index}
use Rattle.stored_grid.specs.declared.lent.Lent.{Lent}

-- what a call is lent: the words in the order of the fields
abbrev pub lent_of : List ℕ → Lent
lent_of w =
    record {
      p = slice_index w 0;
      normals = slice_index w 1;
      irr = slice_index w 2;
      starts = slice_index w 3;
      items = slice_index w 4;
      list = slice_index w 5;
      probe_p = slice_index w 6;
      probe_normals = slice_index w 7;
      seen = slice_index w 8;
      light = slice_index w 9;
    }
