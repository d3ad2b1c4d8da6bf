-- One seed tried: what is kept then, and that the chains hold on. Assumes nothing.
use mathlib.Core.Bool.{true, false}
use mathlib.Core.List.{List}
use mathlib.Core.Path.{◌≡◌, sym, ap}
use Prim.Native.Nat.{ℕ, ◌+◌, ◌*◌}
use native.Mathlib.Omega.{arith}
use lib.Ieee.{Float}
use lib.ListN.{length}
use lib.Seq.{length-sets}
use Rattle.vector.specs.declared.Vec3.{Vec3}
use Rattle.vector.specs.Flat.{vec_at, put_at, components}
use Rattle.vector.proofs.Puts.{at_put_other}
use Rattle.grid.specs.Cells.{cells, cell_number}
use Rattle.std.specs.Prelude.{Option, Some, None}
use Rattle.seeds.specs.declared.Spacing.{Spacing}
use Rattle.placement.specs.Kept.{dims_in, cell_in, free}
use Rattle.placement.specs.Chains.{key_of, Chains, tried}
use Rattle.placement.proofs.Chained.{chained_same}

module _ (s : Spacing) (count : ℕ) (p : List Float) {found : Option Vec3} where
  -- a seed that lands nowhere, one that there is room for, and one that there is none for
  pub try_none : found ≡ None → (count, p) ≡ tried s count p found
  unfolding tried
  try_none e = rw e

  pub try_kept : (q : Vec3) → found ≡ Some q → free s (vec_at p) count q ≡ true → (count + 1, put_at p count q) ≡ tried s count p found
  unfolding tried
  try_kept q e f = rw (e, f)

  pub try_left : (q : Vec3) → found ≡ Some q → free s (vec_at p) count q ≡ false → (count, p) ≡ tried s count p found
  unfolding tried
  try_left q e f = rw (e, f)

-- a point stored after those that are chained changes no key of theirs
pub chains_put : (s : Spacing) (count : ℕ) (p : List Float) (q : Vec3) {head next : List ℕ} → Chains s count p head next → Chains s count (put_at p count q) head next
unfolding key_of
chains_put s count p q w =
    let l : length (put_at p count q) ≡ length p = length-sets p (3 * count) (components q) in
    record {
      points = omega (arith, w.points, l);
      celled = w.celled;
      linked = w.linked;
      chained =
          chained_same (key_of s (vec_at p)) (key_of s (vec_at (put_at p count q))) (cells (dims_in s)) count
          (λ j h. ap (λ (v : Vec3). cell_number (dims_in s) (cell_in s v)) (sym (at_put_other p count j q (λ e. omega (arith, e))))) w.chained;
    }
