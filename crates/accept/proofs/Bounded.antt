-- What a check of lengths, ranges or bounds that passed says of a slice and its entries. Assumes nothing.
use mathlib.Core.Bool.{Bool, true, false, and-eq-true_iff}
use mathlib.Core.List.{List, [], ◌∷◌}
use mathlib.Core.Path.{◌≡◌, refl, sym, ◌∙◌}
use Prim.Native.Nat.{ℕ, ◌*◌, ◌/◌, ◌≤◌, ◌<◌}
use native.Mathlib.Nat.{add-zero, mul-zero, le-div_iff_mul-le}
use native.Mathlib.Omega.{arith}
use lib.Dec.{leb, ltb}
use lib.Ieee.{Float, nan, inf, fin, le, lt, eq, neg}
use lib.IntN.{ℤ}
use lib.ListN.{length}
use borrow.Author.Tests.{leb-true, leb-false, ltb-true, le-leb}
use Rattle.accept.specs.Tables.{at_most, holds, all_below, number_at, numbers_below}
use Rattle.float.specs.Column.{float_at}
use Rattle.vector.specs.declared.Vec3.{Vec3}
use Rattle.vector.specs.Flat.{vec_at}
use Rattle.accept.specs.Every.{every}
use Rattle.accept.specs.Limits.{max_coordinate}
use Rattle.accept.specs.Ranges.{within, all_within, floats_within, axis, coordinate, coordinates, point, bounds}
use Rattle.accept.proofs.Every.{every_at, every_same, every_product, conj_each}

-- a count that was checked is within its limit
pub at_most-le : (n limit : ℕ) → at_most n limit ≡ true → n ≤ limit
at_most-le n limit e = leb-true n limit e

-- a slice that holds n entries has their places
pub holds-le : (len n each : ℕ) → holds len n each ≡ true → n * each ≤ len
unfolding holds
holds-le len n each e = leb-true _ _ e

-- a slice that holds n vectors has their floats
pub three_each : (len n : ℕ) → holds len n 3 ≡ true → 3 * n ≤ len
three_each len n h = let e = holds-le len n 3 h in omega arith

-- and one that has the places holds the entries
pub le_holds : (len n each : ℕ) → n * each ≤ len → holds len n each ≡ true
unfolding holds
le_holds len n each h = le-leb _ _ h

-- any slice holds entries of no places
pub holds_none : (len n : ℕ) → true ≡ holds len n 0
unfolding holds
holds_none len n = rw mul-zero (sym (le-leb 0 len (omega arith)))

-- two orders that come to the same have the same test
pub same_test : (a b c d : ℕ) (s t : Bool) → leb a b ≡ s → leb c d ≡ t → (a ≤ b → c ≤ d) → (c ≤ d → a ≤ b) → s ≡ t
same_test a b c d true true e f p q = refl
same_test a b c d true false e f p q = absurd (let h = p (leb-true a b e) in omega (arith, leb-false c d f))
same_test a b c d false true e f p q = absurd (let h = q (leb-true c d f) in omega (arith, leb-false a b e))
same_test a b c d false false e f p q = refl

-- the test by division, which no number makes too large
pub holds_some : (len n each : ℕ) → 0 < each → leb n (len / each) ≡ holds len n each
unfolding holds
holds_some len n each h =
    let i = le-div_iff_mul-le {k = each} {x = n} {y = len} h in
    same_test n (len / each) (n * each) len _ _ refl refl i.0 i.1

-- no range has a NaN
pub within-nan : (lo hi : Float) → within nan lo hi ≡ false
unfolding le lt eq
within-nan nan hi = refl
within-nan (inf s) hi = refl
within-nan (fin s m e) hi = refl

-- no range with finite ends has an infinity
pub within_inf : (s a b : Bool) (m n : ℕ) (d e : ℤ) → within (inf s) (fin a m d) (fin b n e) ≡ false
unfolding le lt eq
within_inf true a b m n d e = refl
within_inf false a b m n d e = refl

-- each of the first n floats is in range
pub all_within_at : (f : ℕ → Float) (n : ℕ) (lo hi : Float) → all_within f n lo hi ≡ true
    → (k : ℕ) → k < n → within (f k) lo hi ≡ true
unfolding all_within
all_within_at f n lo hi e = every_at (λ k. within (f k) lo hi) n e

-- a list that was checked has the floats, each in range
pub floats_within_at : (l : List Float) (n each : ℕ) (lo hi : Float) → floats_within l n each lo hi ≡ true
    → (n * each ≤ length l) × ((k : ℕ) → k < n * each → within (float_at l k) lo hi ≡ true)
floats_within_at l n each lo hi e =
    let both = (and-eq-true_iff (holds (length l) n each) (all_within (float_at l) (n * each) lo hi)).0 e in
    (holds-le (length l) n each both.0, all_within_at (float_at l) (n * each) lo hi both.1)

-- floats that are coordinates, three by three, are points
pub points_by : (l : List Float) (n : ℕ) → all_within (float_at l) (n * 3) (neg max_coordinate) max_coordinate ≡ every (λ i. point (vec_at l i)) n
unfolding all_within every
points_by l n =
    every_product (λ k. coordinate (float_at l k)) n 3 ∙ every_same _ _ n (λ i h. rw (add-zero (3 * i)))

-- each vector of a list of coordinates is a point
pub coordinates_at : (l : List Float) (n : ℕ) → coordinates l n ≡ true → (i : ℕ) → i < n → point (vec_at l i) ≡ true
coordinates_at l n e =
    let both = (and-eq-true_iff (holds (length l) n 3) (all_within (float_at l) (n * 3) (neg max_coordinate) max_coordinate)).0 e in
    every_at (λ i. point (vec_at l i)) n (sym (points_by l n) ∙ both.1)

-- bounds that were checked have both ends in range and in order
pub axis_at : (lo hi limit : Float) → axis lo hi limit ≡ true
    → (within lo (neg limit) limit ≡ true) × (within hi (neg limit) limit ≡ true) × (le lo hi ≡ true)
axis_at lo hi limit e =
    let h = conj_each (within lo (neg limit) limit ∷ within hi (neg limit) limit ∷ le lo hi ∷ []) e in
    (h.0, h.1.0, h.1.1.0)

-- a point that was checked has three coordinates, and bounds that were checked three axes
pub point_at : (p : Vec3) → point p ≡ true → (coordinate p.x ≡ true) × (coordinate p.y ≡ true) × (coordinate p.z ≡ true)
point_at p e = let h = conj_each (coordinate p.x ∷ coordinate p.y ∷ coordinate p.z ∷ []) e in (h.0, h.1.0, h.1.1.0)

pub bounds_at : (lo hi : Vec3) → bounds lo hi ≡ true
    → (axis lo.x hi.x max_coordinate ≡ true) × (axis lo.y hi.y max_coordinate ≡ true) × (axis lo.z hi.z max_coordinate ≡ true)
bounds_at lo hi e =
    let h = conj_each (axis lo.x hi.x max_coordinate ∷ axis lo.y hi.y max_coordinate ∷ axis lo.z hi.z max_coordinate ∷ []) e in
    (h.0, h.1.0, h.1.1.0)

-- each of the first n numbers is below the bound
pub all_below_at : (f : ℕ → ℕ) (n bound : ℕ) → all_below f n bound ≡ true → (k : ℕ) → k < n → f k < bound
unfolding all_below
all_below_at f n bound e k h = ltb-true _ _ (every_at (λ j. ltb (f j) bound) n e k h)

-- a list that was checked has the numbers, each below the bound
pub numbers_below_at : (l : List ℕ) (n bound : ℕ) → numbers_below l n bound ≡ true
    → (n ≤ length l) × ((k : ℕ) → k < n → number_at l k < bound)
numbers_below_at l n bound e =
    let both = (and-eq-true_iff (leb n (length l)) (all_below (number_at l) n bound)).0 e in
    (leb-true _ _ both.0, all_below_at (number_at l) n bound both.1)
