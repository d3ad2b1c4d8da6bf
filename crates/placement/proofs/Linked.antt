-- The cell that a point is chained in, and the chains with one point more. Assumes nothing.
use mathlib.Core.List.{List}
use mathlib.Core.Path.{◌≡◌, ap, ◌∙◌}
use Prim.Native.Nat.{ℕ, ◌+◌, ◌*◌, ◌<◌}
use native.Mathlib.Nat.{sub-zero}
use native.Mathlib.Omega.{arith}
use lib.Ieee.{Float}
use lib.ListN.{length, set, length-set}
use Rattle.float.specs.Arithmetic.{◌/f◌, 1f}
use Rattle.vector.specs.declared.Vec3.{Vec3}
use Rattle.vector.specs.Flat.{vec_at}
use Rattle.accept.specs.Tables.{number_at}
use Rattle.grid.specs.declared.Block.{Block}
use Rattle.grid.specs.Cells.{cells}
use Rattle.grid.specs.Rows.{block_near}
use Rattle.grid.proofs.Numbered.{dims_bounded, cell_within, number_below}
use Rattle.seeds.specs.declared.Spacing.{Spacing}
use Rattle.placement.specs.Kept.{dims_in, cell_in}
use Rattle.placement.specs.Chains.{key_of, Chains}
use Rattle.placement.proofs.Chained.{chained_more}

-- a cell's number is below how many cells there are
pub key_below : (s : Spacing) (at : ℕ → Vec3) (j : ℕ) → key_of s at j < cells (dims_in s)
unfolding key_of
key_below s at j = number_below (dims_in s) (cell_in s (at j)) (cell_within (at j) s.lo (1f /f s.d_min) (dims_in s) (dims_bounded s.lo s.hi s.d_min))

-- the block without reach begins at the point's own cell
pub own_cell : (s : Spacing) (at : ℕ → Vec3) (j : ℕ) {p : Vec3} {b : Block} → p ≡ at j → b ≡ block_near s.lo s.hi s.d_min p 0 → b.first ≡ key_of s at j
unfolding key_of block_near
own_cell s at j e f = rw (f, e, sub-zero (cell_in s (at j)).x, sub-zero (cell_in s (at j)).y, sub-zero (cell_in s (at j)).z)

-- which is one of the grid
pub own_below : (s : Spacing) (at : ℕ → Vec3) (j : ℕ) {p : Vec3} {b : Block} → p ≡ at j → b ≡ block_near s.lo s.hi s.d_min p 0 → b.first < cells (dims_in s)
own_below s at j e f = rw (own_cell s at j e f) (key_below s at j)

-- one point more, chained in its cell
pub chains_more : (s : Spacing) (count : ℕ) (p : List Float) {head next head' next' : List ℕ} {c : ℕ} → Chains s count p head next
    → 3 * count + 2 < length p → count < length next → c ≡ key_of s (vec_at p) count
    → head' ≡ set head c (count + 1) → next' ≡ set next count (number_at head c) → Chains s (count + 1) p head' next'
chains_more s count p {head} {next} {head'} {next'} {c} w h k e f g =
    let lh : length head' ≡ length head = ap length f ∙ length-set head c (count + 1) in
    let ln : length next' ≡ length next = ap length g ∙ length-set next count (number_at head c) in
    record {
      points = omega arith;
      celled = omega (arith, w.celled, lh);
      linked = omega (arith, ln, k);
      chained = chained_more (key_of s (vec_at p)) (cells (dims_in s)) count w.chained w.celled k e (rw e (key_below s (vec_at p) count)) f g;
    }
