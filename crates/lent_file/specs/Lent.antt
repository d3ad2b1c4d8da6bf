-- How much of each table a line says is lent, for the programs that replay answers. Definitions only.
use Rattle.std.specs.Prelude.{ℕ, List, slice_index}
use Rattle.lent_file.specs.declared.lending.Lent.{Lent}

-- what a call is lent: the words in the order of the fields
abbrev pub lent_of : List ℕ → Lent
lent_of w =
    record {
      p = slice_index w 0;
      normals = slice_index w 1;
      albedo = slice_index w 2;
      area = slice_index w 3;
      direct = slice_index w 4;
      cluster_area = slice_index w 5;
      first = slice_index w 6;
      count = slice_index w 7;
      member = slice_index w 8;
      starts = slice_index w 9;
      link_cluster = slice_index w 10;
      link_weight = slice_index w 11;
      probe_p = slice_index w 12;
      probe_normals = slice_index w 13;
    }
