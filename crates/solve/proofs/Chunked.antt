-- Vectors of a flat slice that is read three floats at a time. Assumes nothing.
use mathlib.Core.List.{List, []}
use mathlib.Core.Path.{◌≡◌, refl, ap, ◌∙◌}
use Prim.Native.Nat.{ℕ, ◌+◌, ◌*◌, ◌/◌, ◌<◌, ◌≤◌}
use native.Mathlib.Omega.{arith}
use lib.Ieee.{Float}
use lib.ListN.{length}
use Rattle.std.specs.Simd.{first_chunks}
use Rattle.float.specs.Column.{float_at}
use Rattle.vector.specs.declared.Vec3.{Vec3}
use Rattle.vector.specs.Flat.{vec_at, written}
use Rattle.vector.specs.Vector.{plus, scaled, zero_vec}
use Rattle.vector.proofs.Cut.{cut_at}
use Rattle.vector.proofs.Replaced.{written_same}
use Rattle.vector.proofs.Sums.{fold_same}
use Rattle.accept.specs.Tables.{number_at}
use Rattle.transfer.specs.Room.{Rows}
use Rattle.solve.specs.Bounce.{link_light, row_light}
use Rattle.solve.specs.Held.{RowsLit, triple}

-- each triple is the vector of its number
pub triple_at : (l : List Float) (c : ℕ) → 3 * c + 2 < length l → triple (first_chunks 3 (length l / 3) l) c ≡ vec_at l c
triple_at l c h = cut_at l refl c h [] refl

-- and so is the vector read from one of so many triples
pub read_at : (l : List Float) {triples : List (List Float)} {n i : ℕ} {v : Vec3}
    → triples ≡ first_chunks 3 (length l / 3) l → 3 * n ≤ length l → i < n → v ≡ triple triples i → v ≡ vec_at l i
read_at l {i = i} e held h f = f ∙ rw e (triple_at l i (omega arith))

-- so each link of rows whose clusters are among them brings the light of the flat list
module _ {n nc : ℕ} {rs : Rows} (light : List Float) (lit : RowsLit n rs.links rs.starts rs.cluster rs.weight nc) (held : 3 * nc ≤ length light) where
  links_triple : (k : ℕ) → k < rs.links → link_light rs (triple (first_chunks 3 (length light / 3) light)) k ≡ link_light rs (vec_at light) k
  links_triple k h =
      let c = number_at rs.cluster k in
      ap (λ (v : Vec3). scaled v (float_at rs.weight k)) (triple_at light c (omega (arith, lit.below k h)))

  rows_triple : (i : ℕ) → i < n → row_light rs (triple (first_chunks 3 (length light / 3) light)) i ≡ row_light rs (vec_at light) i
  unfolding row_light
  rows_triple i h =
      let up = lit.rising i h in
      let end = lit.inside (i + 1) (omega arith) in
      fold_same plus zero_vec _ _ _ (λ j k. links_triple (number_at rs.starts i + j) (omega (arith, k, up, end)))

  -- and what they write is what those that read the flat list write
  pub written_triple : {triples : List (List Float)} (irr : List Float) {left : List Float}
      → triples ≡ first_chunks 3 (length light / 3) light → left ≡ written (row_light rs (triple triples)) n irr
      → left ≡ written (row_light rs (vec_at light)) n irr
  written_triple irr e f = f ∙ rw e (written_same _ (row_light rs (vec_at light)) n irr rows_triple)
