-- The columns of clusters that a function was lent as one struct, and as it leaves them. Definitions only.
use Rattle.std.specs.Prelude.{List, ℕ, Float}
use Rattle.std.specs.Borrow.{MutBor}
use Rattle.clusters.specs.declared.columns.Columns.{Columns as Lent}
use Rattle.clusters.specs.Lent.{Columns}

abbrev pub columns_held : Lent → Columns
columns_held l =
    record {
      p = l.p.now;
      n = l.n.now;
      area = l.area.now;
      radius = l.radius.now;
      first = l.first.now;
      count = l.count.now;
      member = l.member.now;
    }

-- the struct's slices, one by one, as they are left
abbrev pub Left : Type 0
Left =
    MutBor (List Float)
    × (MutBor (List Float) × (MutBor (List Float) × (MutBor (List Float) × (MutBor (List ℕ) × (MutBor (List ℕ) × (MutBor (List ℕ) × Unit {0}))))))

abbrev pub columns_after : Left → Columns
columns_after l =
    record {
      p = l.0.now;
      n = l.1.0.now;
      area = l.1.1.0.now;
      radius = l.1.1.1.0.now;
      first = l.1.1.1.1.0.now;
      count = l.1.1.1.1.1.0.now;
      member = l.1.1.1.1.1.1.0.now;
    }
