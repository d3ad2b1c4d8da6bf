-- How much of each table a line says is lent, for the programs that replay answers. Definitions only.
use Rattle.std.specs.Prelude.{ℕ, List, slice_index}
use Rattle.stored_rows.specs.declared.lending.ClustersLent.{ClustersLent}
use Rattle.stored_rows.specs.declared.lending.RowsLent.{RowsLent}

-- what a call for clusters is lent: the words in the order of the fields
abbrev pub clusters_lent_of : List ℕ → ClustersLent
clusters_lent_of w =
    record {
      p = slice_index w 0;
      normals = slice_index w 1;
      area = slice_index w 2;
      cluster_p = slice_index w 3;
      cluster_n = slice_index w 4;
      cluster_area = slice_index w 5;
      radius = slice_index w 6;
      first = slice_index w 7;
      count = slice_index w 8;
      member = slice_index w 9;
      order = slice_index w 10;
      spare = slice_index w 11;
    }

-- what a call for rows is lent: the words in the order of the fields
abbrev pub rows_lent_of : List ℕ → RowsLent
rows_lent_of w =
    record {
      p = slice_index w 0;
      normals = slice_index w 1;
      cluster_p = slice_index w 2;
      cluster_n = slice_index w 3;
      cluster_area = slice_index w 4;
      radius = slice_index w 5;
      starts = slice_index w 6;
      link_cluster = slice_index w 7;
      link_weight = slice_index w 8;
      link = slice_index w 9;
      weight = slice_index w 10;
    }
