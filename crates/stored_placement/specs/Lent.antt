-- How much of each table a line says is lent, for the programs that replay answers. Definitions only.
use Rattle.std.specs.Prelude.{ℕ, List, slice_index}
use Rattle.stored_placement.specs.declared.lending.Lent.{Lent}

-- what a call is lent: the words in the order of the fields
abbrev pub lent_of : List ℕ → Lent
lent_of w =
    record {
      kinds = slice_index w 0;
      lengths = slice_index w 1;
      plane_parts = slice_index w 2;
      object_parts = slice_index w 3;
      materials = slice_index w 4;
      p = slice_index w 5;
      n = slice_index w 6;
      albedo = slice_index w 7;
      area = slice_index w 8;
      direct = slice_index w 9;
      irr = slice_index w 10;
      rad = slice_index w 11;
      head = slice_index w 12;
      next = slice_index w 13;
    }
