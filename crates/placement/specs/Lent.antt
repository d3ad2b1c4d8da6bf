-- What surfels are placed from, and their columns, as they are lent: document 01, 'What changes shape' (lent slices). Definitions only.
use Rattle.std.specs.Prelude.{List, ℕ, Float}
use Rattle.std.specs.Borrow.{Bor, MutBor}
use Rattle.vector.specs.declared.Vec3.{Vec3}
use Rattle.vector.specs.Flat.{Slice, MutSlice}
use Rattle.tables.specs.Tables.{Scene}

-- a scene, so many materials, the bounds from lo to hi, and how many surfels are asked for
pub record Request : Type 0 where
  pub scene : Scene
  pub mats : ℕ
  pub materials : List Float
  pub lo : Vec3
  pub hi : Vec3
  pub target : ℕ

-- of each surfel the point, the normal, the albedo, the area, and its light
pub record Columns : Type 0 where
  pub p : List Float
  pub n : List Float
  pub albedo : List Float
  pub area : List Float
  pub direct : List Float
  pub irr : List Float
  pub rad : List Float

-- the request of these numbers and lists, and the one that a function was given
abbrev pub request_of : Scene → ℕ → List Float → Vec3 → Vec3 → ℕ → Request
request_of scene mats materials lo hi target =
    record { scene = scene; mats = mats; materials = materials; lo = lo; hi = hi; target = target }

abbrev pub request_in : Scene → ℕ → Slice Float → Vec3 → Vec3 → ℕ → Request
request_in scene mats materials lo hi target = request_of scene mats materials.entry.now lo hi target

-- the columns of these lists
abbrev pub columns_of : List Float → List Float → List Float → List Float → List Float → List Float → List Float → Columns
columns_of p n albedo area direct irr rad = record { p = p; n = n; albedo = albedo; area = area; direct = direct; irr = irr; rad = rad }

-- those that a function asks for, that it was lent, and as it leaves them
abbrev pub columns_now : Bor (List Float) → MutBor (List Float) → MutBor (List Float) → MutBor (List Float) → MutBor (List Float) → MutBor (List Float) → MutBor (List Float) → Columns
columns_now p n albedo area direct irr rad = columns_of p.now n.now albedo.now area.now direct.now irr.now rad.now

abbrev pub columns_in : MutSlice Float → MutSlice Float → MutSlice Float → MutSlice Float → MutSlice Float → MutSlice Float → MutSlice Float → Columns
columns_in p n albedo area direct irr rad =
    columns_of p.entry.now n.entry.now albedo.entry.now area.entry.now direct.entry.now irr.entry.now rad.entry.now

abbrev pub columns_out : MutSlice Float → MutSlice Float → MutSlice Float → MutSlice Float → MutSlice Float → MutSlice Float → MutSlice Float → Columns
columns_out p n albedo area direct irr rad =
    columns_of p.exit.now n.exit.now albedo.exit.now area.exit.now direct.exit.now irr.exit.now rad.exit.now

-- those that a function only reads
abbrev pub columns_lent : Slice Float → Slice Float → Slice Float → Slice Float → Slice Float → Slice Float → Slice Float → Columns
columns_lent p n albedo area direct irr rad =
    columns_of p.entry.now n.entry.now albedo.entry.now area.entry.now direct.entry.now irr.entry.now rad.entry.now

-- those that a function which only reads the points was lent, and as it leaves them
abbrev pub columns_read : Slice Float → MutSlice Float → MutSlice Float → MutSlice Float → MutSlice Float → MutSlice Float → MutSlice Float → Columns
columns_read p n albedo area direct irr rad =
    columns_of p.entry.now n.entry.now albedo.entry.now area.entry.now direct.entry.now irr.entry.now rad.entry.now

abbrev pub columns_over : Slice Float → MutSlice Float → MutSlice Float → MutSlice Float → MutSlice Float → MutSlice Float → MutSlice Float → Columns
columns_over p n albedo area direct irr rad =
    columns_of p.entry.now n.exit.now albedo.exit.now area.exit.now direct.exit.now irr.exit.now rad.exit.now
