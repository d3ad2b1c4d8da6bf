-- The search over the cells about a point: none of them has a point that is too close exactly where none of all points is. Assumes nothing.
use mathlib.Core.Bool.{Bool, true, false, not, ◌&&◌, and-eq-true_iff}
use mathlib.Core.List.{[], ◌∷◌}
use mathlib.Core.Logic.{inl, inr}
use mathlib.Core.Path.{◌≡◌, refl, sym, ap, ◌∙◌}
use Prim.Native.Nat.{ℕ, ◌+◌, ◌-◌, ◌<◌, ◌≤◌}
use native.Mathlib.Nat.{eq-or-lt_of_le}
use native.Mathlib.Omega.{arith}
use borrow.Author.Tests.{not-false, eqb-true, eq-eqb, leb-true, le-leb}
use lib.Dec.{eqb, leb}
use Rattle.float.specs.Arithmetic.{◌/f◌, 1f}
use Rattle.float.proofs.Signs.{clash}
use Rattle.vector.specs.declared.Vec3.{Vec3}
use Rattle.accept.proofs.Every.{every_at, every_all, every_fails, one_fails, conj_each}
use Rattle.grid.specs.declared.Block.{Block}
use Rattle.grid.specs.declared.Cell.{Cell}
use Rattle.grid.specs.declared.Dims.{Dims}
use Rattle.grid.specs.Cells.{cells, cell_number}
use Rattle.grid.specs.Needs.{Within}
use Rattle.grid.specs.Rows.{block_near, row_cell}
use Rattle.grid.specs.Visiting.{first_near, count_near}
use Rattle.grid.proofs.Numbered.{dims_bounded, cell_within, cells_few}
use Rattle.grid.proofs.Around.{number, number_own, number_along, near_in, inside, first_row, row_end}
use Rattle.seeds.specs.declared.Spacing.{Spacing}
use Rattle.placement.specs.Kept.{dims_in, cell_in, beside, neighbouring, closer, too_close, free}
use Rattle.placement.specs.Chains.{key_of, vacant}

-- on an axis, the cells near c are those beside it
beside_near : (c x dim : ℕ) → x < count_near c 1 dim → beside (first_near c 1 + x) c ≡ true
beside_near c x dim h = rw (le-leb (first_near c 1 + x) (c + 1) (omega arith), le-leb c (first_near c 1 + x + 1) (omega arith))

near_beside : (c a dim : ℕ) → a < dim → beside a c ≡ true → (a - first_near c 1 < count_near c 1 dim) × (first_near c 1 + (a - first_near c 1) ≡ a)
near_beside c a dim h e =
    let both = (and-eq-true_iff (leb a (c + 1)) (leb c (a + 1))).0 e in
    let l = leb-true a (c + 1) both.0 in
    let m = leb-true c (a + 1) both.1 in
    (omega arith, omega arith)

module _ (s : Spacing) (p : Vec3) where
  abbrev b : Block
  b = block_near s.lo s.hi s.d_min p 1

  abbrev d : Dims
  d = dims_in s

  abbrev c : Cell
  c = cell_in s p

  -- the cell number x of row y of layer z
  abbrev pub cell_at : ℕ → ℕ → ℕ → ℕ
  cell_at x y z = row_cell b y z + x

  -- a cell of the block is one of the grid, by its place on each axis
  pub cell_number_lem : (x y z : ℕ) → cell_at x y z ≡ number d (first_near c.x 1 + x) (first_near c.y 1 + y) (first_near c.z 1 + z)
  cell_number_lem x y z =
      ap (λ (n : ℕ). n + x) (first_row s.lo s.hi s.d_min p 1 y z) ∙ sym (number_along d (first_near c.x 1) (first_near c.y 1 + y) (first_near c.z 1 + z) x)

  pub cell_below : (x y z : ℕ) → x < b.wide → y < b.rows → z < b.layers → cell_at x y z < cells d
  unfolding block_near
  cell_below x y z h k l = omega (arith, first_row s.lo s.hi s.d_min p 1 y z, row_end s.lo s.hi s.d_min p 1 y z k l, h)

  -- so that its number is small, as the code computes it
  pub cell_small : {b' : Block} → b' ≡ b → (x y z : ℕ) → x < b'.wide → y < b'.rows → z < b'.layers → row_cell b' y z + x < 134217728
  cell_small e x y z h k l = rw e (omega (arith, cell_below x y z (rw e at h) (rw e at k) (rw e at l), cells_few d (dims_bounded s.lo s.hi s.d_min)))

  module _ (at : ℕ → Vec3) (n : ℕ) where
    -- a cell of the block is one of the grid
    near : (x y z : ℕ) → x < b.wide → y < b.rows → z < b.layers
        → Within d (record { x = first_near c.x 1 + x; y = first_near c.y 1 + y; z = first_near c.z 1 + z })
    unfolding block_near
    near x y z h k l =
        let w = inside s.lo s.hi s.d_min p 1 in
        record { x_in = near_in c.x 1 d.x x w.x_in h; y_in = near_in c.y 1 d.y y w.y_in k; z_in = near_in c.z 1 d.z z w.z_in l }

    -- and beside the point's own
    beside_each : (x y z : ℕ) → x < b.wide → y < b.rows → z < b.layers
        → neighbouring (record { x = first_near c.x 1 + x; y = first_near c.y 1 + y; z = first_near c.z 1 + z }) c ≡ true
    unfolding block_near neighbouring
    beside_each x y z h k l = rw (beside_near c.x x d.x h, beside_near c.y y d.y k, beside_near c.z z d.z l)

    within : (j : ℕ) → Within d (cell_in s (at j))
    within j = cell_within (at j) s.lo (1f /f s.d_min) d (dims_bounded s.lo s.hi s.d_min)

    -- the cell of a point is known by its number
    own : (j : ℕ) {a : Cell} → Within d a → key_of s at j ≡ cell_number d a → cell_in s (at j) ≡ a
    unfolding key_of
    own j {a} w e = number_own d (cell_in s (at j)) a (within j) w e

    -- a point that is closer, and in a neighbouring cell, is too close
    close : (j : ℕ) → neighbouring (cell_in s (at j)) c ≡ true → closer s p (at j) ≡ true → too_close s p (at j) ≡ true
    unfolding too_close
    close j e f = rw (e, f)

    -- no point of a cell is too close
    abbrev pub Vacant : ℕ → Type 0
    Vacant cell = vacant (key_of s at) (λ j. closer s p (at j)) cell n ≡ true

    -- a point that is too close in one of the cells is one of all
    pub taken : (x y z : ℕ) → x < b.wide → y < b.rows → z < b.layers → vacant (key_of s at) (λ j. closer s p (at j)) (cell_at x y z) n ≡ false → free s at n p ≡ false
    unfolding vacant free
    taken x y z h k l e =
        let w = one_fails (λ j. not (eqb (key_of s at j) (cell_at x y z) && closer s p (at j))) n e in
        let j = w.place in
        let both = (and-eq-true_iff (eqb (key_of s at j) (cell_at x y z)) (closer s p (at j))).0 (not-false _ w.fails) in
        let same = own j (near x y z h k l) (eqb-true _ _ both.0 ∙ cell_number_lem x y z) in
        every_fails (λ j. not (too_close s p (at j))) n j w.below (ap not (close j (rw same (beside_each x y z h k l)) both.1))

    -- every cell of the block has no point that is too close
    abbrev pub AllVacant : Type 0
    AllVacant = (x y z : ℕ) → x < b.wide → y < b.rows → z < b.layers → Vacant (cell_at x y z)

    -- so that none is too close: its cell would be one of the block
    none_close : AllVacant → (j : ℕ) → j < n → too_close s p (at j) ≡ true → true ≡ false
    unfolding too_close neighbouring vacant block_near key_of
    none_close h j k e =
        let a = cell_in s (at j) in
        let w = within j in
        let both = (and-eq-true_iff (neighbouring a c) (closer s p (at j))).0 e in
        let sides = conj_each (beside a.x c.x ∷ beside a.y c.y ∷ beside a.z c.z ∷ []) both.0 in
        let x = near_beside c.x a.x d.x w.x_in sides.0 in
        let y = near_beside c.y a.y d.y w.y_in sides.1.0 in
        let z = near_beside c.z a.z d.z w.z_in sides.1.1.0 in
        let i = a.x - first_near c.x 1 in
        let r = a.y - first_near c.y 1 in
        let q = a.z - first_near c.z 1 in
        let t = every_at (λ j. not (eqb (key_of s at j) (cell_at i r q) && closer s p (at j))) n (h i r q x.0 y.0 z.0) j k in
        let o : key_of s at j ≡ cell_at i r q = sym (cell_number_lem i r q ∙ rw (x.1, y.1, z.1)) in
        sym (rw (eq-eqb (key_of s at j) (cell_at i r q) o, both.1) at t)

    pub roomy : AllVacant → free s at n p ≡ true
    unfolding free
    roomy h = every_all (λ j. not (too_close s p (at j))) n (λ j k. by_test j k (too_close s p (at j)) refl)
      where
        by_test : (j : ℕ) → j < n → (t : Bool) → too_close s p (at j) ≡ t → not (too_close s p (at j)) ≡ true
        by_test j k true e = clash (none_close h j k e)
        by_test j k false e = rw e

    -- the cells that the three loops have passed: whole layers, whole rows of layer z, and cells of row y
    abbrev pub Layers : ℕ → Type 0
    Layers z = (i j k : ℕ) → i < b.wide → j < b.rows → k < z → Vacant (cell_at i j k)

    abbrev pub Rows : ℕ → ℕ → Type 0
    Rows z y = (i j : ℕ) → i < b.wide → j < y → Vacant (cell_at i j z)

    abbrev pub Row : ℕ → ℕ → ℕ → Type 0
    Row z y x = (i : ℕ) → i < x → Vacant (cell_at i y z)

    pub rows_more : (y z : ℕ) {x : ℕ} → Rows z y → Row z y x → b.wide ≤ x → Rows z (y + 1)
    rows_more y z h r w i j k l = elim (eq-or-lt_of_le {n = j} {m = y} (omega arith)) [ inl q ↦ rw q (r i (omega arith)) | inr m ↦ h i j k m ]

    pub layers_more : (z : ℕ) {y : ℕ} → Layers z → Rows z y → b.rows ≤ y → Layers (z + 1)
    layers_more z h r w i j k l m n = elim (eq-or-lt_of_le {n = k} {m = z} (omega arith)) [ inl q ↦ rw q (r i j l (omega arith)) | inr o ↦ h i j k l m o ]
