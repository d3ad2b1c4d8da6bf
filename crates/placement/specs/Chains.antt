-- The chains of the search, head and next, which are scratch: what the functions that walk them ask of each other. No public contract rests on it. Definitions only.
use Rattle.std.specs.Prelude.{Bool, cond, not, ◌&&◌, List, ◌≡◌, ℕ, zero, suc, ◌+◌, ◌*◌, ◌<◌, ◌≤◌, eqb, Float, length, Option, Some, None}
use Rattle.vector.specs.declared.Vec3.{Vec3}
use Rattle.vector.specs.Flat.{vec_at, put_at, written}
use Rattle.accept.specs.Every.{every}
use Rattle.accept.specs.Tables.{number_at}
use Rattle.grid.specs.Cells.{cells, cell_number}
use Rattle.tables.specs.Tables.{Scene}
use Rattle.seeds.specs.declared.Spacing.{Spacing}
use Rattle.placement.specs.Kept.{dims_in, cell_in, free, point_at, placed}

-- the number of the cell of point j
unfoldable pub key_of : Spacing → (ℕ → Vec3) → ℕ → ℕ
key_of s at j = cell_number (dims_in s) (cell_in s (at j))

-- none of the first n points that have the key c passes the test
unfoldable pub vacant : (ℕ → ℕ) → (ℕ → Bool) → ℕ → ℕ → Bool
vacant key test c n = every (λ j. not (eqb (key j) c && test j)) n

-- one more than the last of the first n points that have the key c, 0 where none has
unfoldable pub last : (ℕ → ℕ) → ℕ → ℕ → ℕ
last key c zero = 0
last key c (suc n) = cond (eqb (key n) c) (suc n) (last key c n)

-- each cell leads to its last point, and each point to the one before it in its cell
pub record Chained (key : ℕ → ℕ) (m count : ℕ) (head next : List ℕ) : Type 0 where
  pub heads : (c : ℕ) → c < m → number_at head c ≡ last key c count
  pub links : (j : ℕ) → j < count → number_at next j ≡ last key (key j) j

-- the first `count` points of p are chained, and each list reaches as far
pub record Chains (s : Spacing) (count : ℕ) (p : List Float) (head next : List ℕ) : Type 0 where
  pub points : 3 * count ≤ length p
  pub celled : cells (dims_in s) ≤ length head
  pub linked : count ≤ length next
  pub chained : Chained (key_of s (vec_at p)) (cells (dims_in s)) count head next

-- where a seed landed, tried after the first `count` points of p: how many there are then, and p
unfoldable pub tried : Spacing → ℕ → List Float → Option Vec3 → ℕ × List Float
tried s count p None = (count, p)
tried s count p (Some q) = cond (free s (vec_at p) count q) (count + 1, put_at p count q) (count, p)

-- how many points are kept of all seeds, and p with them
unfoldable pub points_left : Scene → Spacing → ℕ → List Float → ℕ × List Float
points_left scene s target p =
    let ps = placed scene s target in
    (length ps, written (point_at ps) (length ps) p)
