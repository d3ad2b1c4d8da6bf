-- What the two calls write, with one word in every place. Definitions only.
use Rattle.std.specs.Prelude.{ℕ, replicate}
use Rattle.std.specs.Float.{binary32}
use Rattle.std.specs.Float.Ieee.{of_bits}
use Rattle.stored_rows.specs.declared.written.Clusters.{Clusters}
use Rattle.stored_rows.specs.declared.written.Members.{Members}
use Rattle.stored_rows.specs.declared.written.Rows.{Rows}

-- clusters
abbrev pub clusters_of : ℕ → Clusters
clusters_of w =
    record {
      p = replicate 96 (of_bits binary32 w);
      n = replicate 96 (of_bits binary32 w);
      area = replicate 32 (of_bits binary32 w);
      radius = replicate 32 (of_bits binary32 w);
    }

-- their members
abbrev pub members_of : ℕ → Members
members_of w =
    record {
      first = replicate 32 w;
      count = replicate 32 w;
      member = replicate 32 w;
      order = replicate 32 w;
      spare = replicate 32 w;
    }

-- rows
abbrev pub rows_of : ℕ → Rows
rows_of w =
    record {
      starts = replicate 36 w;
      link_cluster = replicate 160 w;
      link_weight = replicate 160 (of_bits binary32 w);
      link = replicate 32 w;
      weight = replicate 32 (of_bits binary32 w);
    }
