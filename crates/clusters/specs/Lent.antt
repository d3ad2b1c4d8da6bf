-- Surfels and columns of clusters as they are lent: document 01, 'What changes shape' (lent slices). Definitions only.
use Rattle.std.specs.Prelude.{List, ℕ, Float}
use Rattle.vector.specs.Flat.{Slice, MutSlice}

-- n surfels: where they are, their normals and their areas
pub record Surfels : Type 0 where
  pub n : ℕ
  pub p : List Float
  pub normals : List Float
  pub area : List Float

-- of each cluster the centre, the normal, the area, the radius, the first of its members and how many they are; and the members
pub record Columns : Type 0 where
  pub p : List Float
  pub n : List Float
  pub area : List Float
  pub radius : List Float
  pub first : List ℕ
  pub count : List ℕ
  pub member : List ℕ

-- the surfels that a function was lent
abbrev pub surfels_in : ℕ → Slice Float → Slice Float → Slice Float → Surfels
surfels_in n p normals area = record { n = n; p = p.entry.now; normals = normals.entry.now; area = area.entry.now }

-- the columns that it was lent, and as it leaves them
abbrev pub columns_in : MutSlice Float → MutSlice Float → MutSlice Float → MutSlice Float → MutSlice ℕ → MutSlice ℕ → MutSlice ℕ → Columns
columns_in p n area radius first count member =
    record {
      p = p.entry.now;
      n = n.entry.now;
      area = area.entry.now;
      radius = radius.entry.now;
      first = first.entry.now;
      count = count.entry.now;
      member = member.entry.now;
    }

abbrev pub columns_out : MutSlice Float → MutSlice Float → MutSlice Float → MutSlice Float → MutSlice ℕ → MutSlice ℕ → MutSlice ℕ → Columns
columns_out p n area radius first count member =
    record {
      p = p.exit.now;
      n = n.exit.now;
      area = area.exit.now;
      radius = radius.exit.now;
      first = first.exit.now;
      count = count.exit.now;
      member = member.exit.now;
    }
