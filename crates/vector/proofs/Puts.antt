-- Vectors stored in a flat list, wherever they stand: the one that was stored, and what is kept. Assumes nothing.
use mathlib.Core.Bool.{Bool, true, false}
use mathlib.Core.List.{List}
use mathlib.Core.Path.{◌≡◌, refl, ◌∙◌}
use Prim.Native.Nat.{ℕ, suc, ◌+◌, ◌*◌, ◌<◌}
use native.Mathlib.Omega.{arith}
use lib.Dec.{eqb}
use lib.Ieee.{Float, nan}
use lib.ListN.{length, get_or, drop, set, length-set}
use lib.Seq.{get_or-set_same, get_or-set_other, drop-set-lt}
use borrow.Author.Tests.{eqb-true, eqb-false}
use Rattle.vector.specs.declared.Vec3.{Vec3}
use Rattle.vector.specs.Vector.{vec}
use Rattle.vector.specs.Flat.{vec_at, put_at}

-- the list with three floats stored from place a on
abbrev three : List Float → ℕ → Vec3 → List Float
three l a v = set (set (set l a v.x) (suc a) v.y) (suc (suc a)) v.z

-- a place that is none of the three is as it was
other : (l : List Float) (a k : ℕ) (v : Vec3) → (k ≡ a → ⊥) → (k ≡ suc a → ⊥) → (k ≡ suc (suc a) → ⊥) → get_or (three l a v) k nan ≡ get_or l k nan
other l a k v p q r =
    get_or-set_other (set (set l a v.x) (suc a) v.y) (suc (suc a)) k v.z nan r
    ∙ get_or-set_other (set l a v.x) (suc a) k v.y nan q
    ∙ get_or-set_other l a k v.x nan p

-- the vector that was stored
pub at_put : (l : List Float) (i : ℕ) (v : Vec3) → 3 * i + 2 < length l → vec_at (put_at l i v) i ≡ v
at_put l i v h = parts (3 * i) (3 * i + 1) (3 * i + 2) (omega arith) (omega arith) h
  where
    parts : (a b c : ℕ) → b ≡ suc a → c ≡ suc (suc a) → c < length l → vec (get_or (three l a v) a nan) (get_or (three l a v) b nan) (get_or (three l a v) c nan) ≡ v
    parts a b c p q k =
        let x = set l a v.x in
        let y = set x (suc a) v.y in
        let e = length-set l a v.x in
        let f = length-set x (suc a) v.y in
        rw (
          p,
          q,
          get_or-set_other y (suc (suc a)) a v.z nan (λ d. omega (arith, d)),
          get_or-set_other x (suc a) a v.y nan (λ d. omega (arith, d)),
          get_or-set_same l a v.x nan (omega arith),
          get_or-set_other y (suc (suc a)) (suc a) v.z nan (λ d. omega (arith, d)),
          get_or-set_same x (suc a) v.y nan (omega arith),
          get_or-set_same y (suc (suc a)) v.z nan (omega arith),
        )

-- the others
pub at_put_other : (l : List Float) (i j : ℕ) (v : Vec3) → (j ≡ i → ⊥) → vec_at (put_at l i v) j ≡ vec_at l j
at_put_other l i j v h =
    rw (
      other l (3 * i) (3 * j) v (λ e. h (omega (arith, e))) (λ e. h (omega (arith, e))) (λ e. h (omega (arith, e))),
      other l (3 * i) (3 * j + 1) v (λ e. h (omega (arith, e))) (λ e. h (omega (arith, e))) (λ e. h (omega (arith, e))),
      other l (3 * i) (3 * j + 2) v (λ e. h (omega (arith, e))) (λ e. h (omega (arith, e))) (λ e. h (omega (arith, e))),
    )

-- the law below, by whether j is the place
holds_by : (g : ℕ → Vec3) (l : List Float) (i j : ℕ) (b : Bool) → eqb j i ≡ b → 3 * i + 2 < length l → vec_at l j ≡ g j → vec_at (put_at l i (g i)) j ≡ g j
holds_by g l i j true e h k =
    let q = eqb-true j i e in
    rw q (at_put l i (g i) h)
holds_by g l i j false e h k = at_put_other l i j (g i) (eqb-false j i e) ∙ k

-- where a list holds g at j, it does so with g i stored at i
pub put_holds : (g : ℕ → Vec3) (l : List Float) (i j : ℕ) → 3 * i + 2 < length l → vec_at l j ≡ g j → vec_at (put_at l i (g i)) j ≡ g j
put_holds g l i j = holds_by g l i j (eqb j i) refl

-- what lies past n vectors, of which one was stored
pub past_put : (n i : ℕ) (l : List Float) (v : Vec3) → i < n → drop (3 * n) (put_at l i v) ≡ drop (3 * n) l
past_put n i l v h =
    let x = set l (3 * i) v.x in
    drop-set-lt (3 * n) (set x (suc (3 * i)) v.y) (suc (suc (3 * i))) v.z (omega arith)
    ∙ drop-set-lt (3 * n) x (suc (3 * i)) v.y (omega arith)
    ∙ drop-set-lt (3 * n) l (3 * i) v.x (omega arith)
