-- Columns whose first surfels are replaced: one surfel more at a time, their lengths, and the points that were stored before. Assumes nothing.
use mathlib.Core.List.{List, [], ◌∷◌}
use mathlib.Core.Path.{◌≡◌, refl, sym, ap, ◌∙◌}
use Prim.Native.Nat.{ℕ, ◌+◌, ◌≤◌, ◌<◌}
use native.Mathlib.Omega.{arith}
use lib.Ieee.{Float}
use lib.ListN.{length, set}
use Rattle.vector.specs.declared.Vec3.{Vec3}
use Rattle.vector.specs.Flat.{vec_at, put_at, components, written}
use Rattle.vector.proofs.Replaced.{written_none, written_put, written_there, written_same, at_written, filled_none, filled_put, replaced_same, replaced_again}
use Rattle.tables.specs.Tables.{Scene}
use Rattle.seeds.specs.declared.Spacing.{Spacing}
use Rattle.seeds.specs.declared.Surfel.{Surfel}
use Rattle.seeds.specs.Surfels.{surfel_at}
use Rattle.placement.specs.Kept.{point_at, columns_by}
use Rattle.placement.specs.Lent.{Columns, columns_of}
use Rattle.placement.specs.Needs.{Roomy}

-- columns that agree each by itself
columns_eq : {p p₂ n n₂ albedo albedo₂ area area₂ direct direct₂ irr irr₂ rad rad₂ : List Float}
    → p ≡ p₂ → n ≡ n₂ → albedo ≡ albedo₂ → area ≡ area₂ → direct ≡ direct₂ → irr ≡ irr₂ → rad ≡ rad₂
    → columns_of p n albedo area direct irr rad ≡ columns_of p₂ n₂ albedo₂ area₂ direct₂ irr₂ rad₂
columns_eq a b c d e f g = rw (a, b, c, d, e, f, g)

-- what holds so many surfels holds fewer
pub roomy_fewer : (m n : ℕ) (l : Columns) → m ≤ n → Roomy n l → Roomy m l
roomy_fewer m n l h r =
    record {
      points = omega (arith, h, r.points);
      normals = omega (arith, h, r.normals);
      albedos = omega (arith, h, r.albedos);
      areas = omega (arith, h, r.areas);
      directs = omega (arith, h, r.directs);
      irrs = omega (arith, h, r.irrs);
      rads = omega (arith, h, r.rads);
    }

module _ (at : ℕ → Surfel) where
  -- no surfel
  pub columns_none : (l : Columns) → l ≡ columns_by at 0 l
  unfolding columns_by
  columns_none l =
      columns_eq (written_none _ l.p) (written_none _ l.n) (written_none _ l.albedo) (filled_none _ l.area) (written_none _ l.direct) (written_none _ l.irr) (written_none _ l.rad)

  -- k has n surfels, v is the next, whose point stands in its place, and m is k with the rest of v stored
  pub columns_more : (n count : ℕ) (l : Columns) {k m : Columns} {v : Surfel} → ((i : ℕ) → vec_at l.p i ≡ (at i).p) → n < count → Roomy count l
      → k ≡ columns_by at n l → v ≡ at n
      → m.p ≡ l.p
      → m.n ≡ put_at k.n n v.n
      → m.albedo ≡ put_at k.albedo n v.albedo
      → m.area ≡ set k.area n v.area
      → m.direct ≡ put_at k.direct n v.direct
      → m.irr ≡ put_at k.irr n v.irr
      → m.rad ≡ put_at k.rad n v.rad
      → m ≡ columns_by at (n + 1) l
  unfolding columns_by
  columns_more n count l there i w e q a b c d f g h =
      let r = roomy_fewer (n + 1) count l (omega arith) w in
      columns_eq
      (a ∙ sym (written_there _ (n + 1) l.p r.points (λ j x. there j)))
      (written_put _ n l.n (ap (λ (x : Columns). x.n) e) (omega (arith, r.normals)) (ap (λ (x : Surfel). x.n) q) b)
      (written_put _ n l.albedo (ap (λ (x : Columns). x.albedo) e) (omega (arith, r.albedos)) (ap (λ (x : Surfel). x.albedo) q) c)
      (filled_put _ n l.area (ap (λ (x : Columns). x.area) e) (omega (arith, r.areas)) (ap (λ (x : Surfel). x.area) q) d)
      (written_put _ n l.direct (ap (λ (x : Columns). x.direct) e) (omega (arith, r.directs)) (ap (λ (x : Surfel). x.direct) q) f)
      (written_put _ n l.irr (ap (λ (x : Columns). x.irr) e) (omega (arith, r.irrs)) (ap (λ (x : Surfel). x.irr) q) g)
      (written_put _ n l.rad (ap (λ (x : Columns). x.rad) e) (omega (arith, r.rads)) (ap (λ (x : Surfel). x.rad) q) h)

-- only the first n surfels count
pub columns_same : (f g : ℕ → Surfel) (n : ℕ) (l : Columns) → ((i : ℕ) → i < n → f i ≡ g i) → columns_by f n l ≡ columns_by g n l
unfolding columns_by
columns_same f g n l h =
    columns_eq
    (written_same _ _ n l.p (λ i k. ap (λ (x : Surfel). x.p) (h i k)))
    (written_same _ _ n l.n (λ i k. ap (λ (x : Surfel). x.n) (h i k)))
    (written_same _ _ n l.albedo (λ i k. ap (λ (x : Surfel). x.albedo) (h i k)))
    (replaced_same 1 _ _ n l.area (λ i k. ap (λ (x : Surfel). x.area ∷ []) (h i k)))
    (written_same _ _ n l.direct (λ i k. ap (λ (x : Surfel). x.direct) (h i k)))
    (written_same _ _ n l.irr (λ i k. ap (λ (x : Surfel). x.irr) (h i k)))
    (written_same _ _ n l.rad (λ i k. ap (λ (x : Surfel). x.rad) (h i k)))

-- surfels at the points of a column
module _ (scene : Scene) (mats : ℕ) (materials : List Float) (s : Spacing) where
  -- the point of a surfel is where it was made
  pub surfel_there : (q : Vec3) → q ≡ (surfel_at scene mats materials s q).p
  unfolding surfel_at
  surfel_there q = refl

  -- points that were stored first, and columns whose surfels are made at those points
  module _ (ps : List Vec3) (l : Columns) where
    -- the points stored
    abbrev stored : List Float
    stored = written (point_at ps) (length ps) l.p

    -- columns with the points stored
    abbrev pointed : Columns
    pointed = columns_of stored l.n l.albedo l.area l.direct l.irr l.rad

    -- storing them once more changes nothing
    stored_again : columns_by (λ i. surfel_at scene mats materials s (point_at ps i)) (length ps) pointed
        ≡ columns_by (λ i. surfel_at scene mats materials s (point_at ps i)) (length ps) l
    unfolding columns_by
    stored_again = columns_eq (replaced_again 3 _ (λ i. components (point_at ps i)) (λ i. refl) (length ps) l.p) refl refl refl refl refl refl

    pub columns_put_points : columns_by (λ i. surfel_at scene mats materials s (vec_at stored i)) (length ps) pointed
        ≡ columns_by (λ i. surfel_at scene mats materials s (point_at ps i)) (length ps) l
    columns_put_points =
        columns_same _ _ (length ps) pointed (λ i h. ap (surfel_at scene mats materials s) (at_written (point_at ps) (length ps) i l.p h)) ∙ stored_again
