-- Which seeds are kept as surfels: document 01, 'Placement'. Seeds in order, each kept where it lands on the surface within the bounds, and no point kept before it in its own or a
-- neighbouring cell is at a squared distance under the square of the least distance. Definitions only.
use Rattle.std.specs.Prelude.{Bool, cond, not, ◌&&◌, List, [], ◌∷◌, ◌++◌, ℕ, zero, suc, ◌+◌, ◌*◌, min, leb, ltb, length, get_or, Option, Some, None}
use Rattle.std.specs.Float.Ieee.{lt}
use Rattle.float.specs.Arithmetic.{◌*f◌, ◌/f◌, 1f}
use Rattle.vector.specs.declared.Vec3.{Vec3}
use Rattle.vector.specs.Vector.{minus, length_squared, zero_vec}
use Rattle.vector.specs.Flat.{written, filled}
use Rattle.accept.specs.Every.{every, conj}
use Rattle.grid.specs.declared.Cell.{Cell}
use Rattle.grid.specs.declared.Dims.{Dims}
use Rattle.grid.specs.declared.Space.{Space}
use Rattle.grid.specs.Cells.{dims_of, cell_of}
use Rattle.tables.specs.Tables.{Scene}
use Rattle.seeds.specs.declared.Spacing.{Spacing}
use Rattle.seeds.specs.declared.Surfel.{Surfel}
use Rattle.seeds.specs.Seeds.{landed}
use Rattle.placement.specs.Lent.{Columns}

-- how many seeds are tried: 24 a surfel, 6,000,000 at most
unfoldable pub seed_count : ℕ → ℕ
seed_count target = min (target * 24) 6000000

-- the cells of the box, whose side is the least distance; the box and that side; and the cell of a point
abbrev pub dims_in : Spacing → Dims
dims_in s = dims_of s.lo s.hi s.d_min

abbrev pub space_of : Spacing → Space
space_of s = record { lo = s.lo; hi = s.hi; cell = s.d_min }

abbrev pub cell_in : Spacing → Vec3 → Cell
cell_in s p = cell_of p s.lo (1f /f s.d_min) (dims_in s)

-- two cells are neighbours, or the same: on each axis they are one apart at most
abbrev pub beside : ℕ → ℕ → Bool
beside a b = leb a (b + 1) && leb b (a + 1)

unfoldable pub neighbouring : Cell → Cell → Bool
neighbouring a b = conj (beside a.x b.x ∷ beside a.y b.y ∷ beside a.z b.z ∷ [])

-- q is closer to p than the least distance, by their squares
unfoldable pub closer : Spacing → Vec3 → Vec3 → Bool
closer s p q = lt (length_squared (minus q p)) (s.d_min *f s.d_min)

-- q is too close to p: its cell is a neighbour of p's or the same, and it is closer than the least distance
unfoldable pub too_close : Spacing → Vec3 → Vec3 → Bool
too_close s p q = neighbouring (cell_in s q) (cell_in s p) && closer s p q

-- none of n points is too close to p
unfoldable pub free : Spacing → (ℕ → Vec3) → ℕ → Vec3 → Bool
free s at n p = every (λ j. not (too_close s p (at j))) n

-- point number i of a list
abbrev pub point_at : List Vec3 → ℕ → Vec3
point_at ps i = get_or ps i zero_vec

-- the points kept so far and where the next seed landed: it is kept after them while they are fewer than the target, if none of them is too close
unfoldable pub kept_with : Spacing → ℕ → List Vec3 → Option Vec3 → List Vec3
kept_with s target ps None = ps
kept_with s target ps (Some p) = cond (ltb (length ps) target && free s (point_at ps) (length ps) p) (ps ++ (p ∷ [])) ps

-- the points kept of the first m seeds; their numbers start at 1
unfoldable pub kept : Scene → Spacing → ℕ → ℕ → List Vec3
kept scene s target zero = []
kept scene s target (suc m) = kept_with s target (kept scene s target m) (landed scene s (suc m))

-- the points kept of all seeds
unfoldable pub placed : Scene → Spacing → ℕ → List Vec3
placed scene s target = kept scene s target (seed_count target)

-- columns whose first n surfels are replaced
unfoldable pub columns_by : (ℕ → Surfel) → ℕ → Columns → Columns
columns_by at n l =
    record {
      p = written (λ i. (at i).p) n l.p;
      n = written (λ i. (at i).n) n l.n;
      albedo = written (λ i. (at i).albedo) n l.albedo;
      area = filled (λ i. (at i).area) n l.area;
      direct = written (λ i. (at i).direct) n l.direct;
      irr = written (λ i. (at i).irr) n l.irr;
      rad = written (λ i. (at i).rad) n l.rad;
    }
