-- How much of each table a line says is lent, for the programs that replay answers. Definitions only.
use Rattle.std.specs.Prelude.{ℕ, List, slice_index}
use Rattle.stored_room.specs.declared.lent.Lent.{Lent}

-- what a call is lent: the words in the order of the fields
abbrev pub lent_of : List ℕ → Lent
lent_of w =
    record {
      albedo = slice_index w 0;
      area = slice_index w 1;
      direct = slice_index w 2;
      cluster_area = slice_index w 3;
      first = slice_index w 4;
      count = slice_index w 5;
      member = slice_index w 6;
      starts = slice_index w 7;
      link_cluster = slice_index w 8;
      link_weight = slice_index w 9;
      irr = slice_index w 10;
      rad = slice_index w 11;
      scratch = slice_index w 12;
    }
