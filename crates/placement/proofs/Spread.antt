-- The points that are placed: no more than are asked for, each where a seed landed, and no two too close. Assumes nothing.
use mathlib.Core.Bool.{Bool, true, false, cond, not, ◌&&◌, and-eq-true_iff}
use mathlib.Core.List.{List, [], ◌∷◌, ◌++◌}
use mathlib.Core.Logic.{inl, inr}
use mathlib.Core.Path.{◌≡◌, refl, sym, ap, ◌∙◌}
use Prim.Native.Nat.{ℕ, zero, suc, ◌<◌, ◌≤◌}
use native.Mathlib.Nat.{eq-or-lt_of_le}
use native.Mathlib.Omega.{arith}
use borrow.Author.Tests.{not-true, ltb-true}
use lib.Dec.{ltb}
use lib.Ieee.{binary32, of_bits, lt}
use lib.ListN.{length}
use Rattle.float.specs.Arithmetic.{◌*f◌}
use Rattle.float.specs.Sign.{abs}
use Rattle.vector.specs.declared.Vec3.{Vec3}
use Rattle.accept.proofs.Every.{every_at}
use Rattle.tables.specs.Tables.{Scene}
use Rattle.std.specs.Prelude.{Option, Some, None}
use Rattle.field.specs.Nearest.{dist}
use Rattle.seeds.specs.declared.Spacing.{Spacing}
use Rattle.seeds.specs.Seeds.{outside, landed}
use Rattle.seeds.proofs.Surface.{landed_within}
use Rattle.placement.specs.Kept.{too_close, free, point_at, kept_with, kept, placed, seed_count}
use Rattle.placement.proofs.Points.{length_more, point_before, point_last}

module _ (scene : Scene) (s : Spacing) (target : ℕ) where
  -- a point is where one of the seeds 1 to m landed
  pub record Landed (m : ℕ) (p : Vec3) : Type 0 where
    pub number : ℕ
    pub from : 1 ≤ number
    pub to : number ≤ m
    pub there : landed scene s number ≡ Some p

  -- so many points at most, each where one of the first m seeds landed, and none too close to one before it
  pub record Spread (m : ℕ) (ps : List Vec3) : Type 0 where
    pub few : length ps ≤ target
    pub lands : (i : ℕ) → i < length ps → Landed m (point_at ps i)
    pub apart : (i j : ℕ) → i < j → j < length ps → too_close s (point_at ps j) (point_at ps i) ≡ false

  -- one seed more that is not kept
  spread_still : (m : ℕ) (ps : List Vec3) → Spread m ps → Spread (suc m) ps
  spread_still m ps w =
      record {
        few = w.few;
        lands =
            λ i h. let l = w.lands i h in
            record { number = l.number; from = l.from; to = omega (arith, l.to); there = l.there };
        apart = w.apart;
      }

  -- one that is
  module _ (m : ℕ) (ps : List Vec3) (p : Vec3) (w : Spread m ps) (e : landed scene s (suc m) ≡ Some p) (few : length ps < target) (room : free s (point_at ps) (length ps) p ≡ true) where
    lands_more : (i : ℕ) → i < length (ps ++ (p ∷ [])) → Landed (suc m) (point_at (ps ++ (p ∷ [])) i)
    lands_more i h =
        let n = length_more ps p in
        elim (eq-or-lt_of_le {n = i} {m = length ps} (omega arith)) [
          | inl q ↦ record { number = suc m; from = omega arith; to = omega arith; there = e ∙ ap Some (sym (ap (point_at (ps ++ (p ∷ []))) q ∙ point_last ps p)) }
          | inr k ↦ rw (point_before ps p i k) ((spread_still m ps w).lands i k)
        ]

    not_close : (i : ℕ) → i < length ps → too_close s p (point_at ps i) ≡ false
    unfolding free
    not_close i h = not-true (too_close s p (point_at ps i)) (every_at (λ j. not (too_close s p (point_at ps j))) (length ps) room i h)

    apart_more : (i j : ℕ) → i < j → j < length (ps ++ (p ∷ [])) → too_close s (point_at (ps ++ (p ∷ [])) j) (point_at (ps ++ (p ∷ [])) i) ≡ false
    apart_more i j l h =
        let n = length_more ps p in
        elim (eq-or-lt_of_le {n = j} {m = length ps} (omega arith)) [
          | inl q ↦ rw (q, point_last ps p, point_before ps p i (omega arith)) (not_close i (omega arith))
          | inr k ↦ rw (point_before ps p j k, point_before ps p i (omega arith)) (w.apart i j l k)
        ]

    spread_more : Spread (suc m) (ps ++ (p ∷ []))
    spread_more = record { few = rw (length_more ps p) (omega arith); lands = lands_more; apart = apart_more }

  spread_with : (m : ℕ) (ps : List Vec3) (q : Option Vec3) → landed scene s (suc m) ≡ q → Spread m ps → Spread (suc m) (kept_with s target ps q)
  unfolding kept_with
  spread_with m ps None e w = spread_still m ps w
  spread_with m ps (Some p) e w = by_test (ltb (length ps) target && free s (point_at ps) (length ps) p) refl
    where
      by_test : (t : Bool) → (ltb (length ps) target && free s (point_at ps) (length ps) p) ≡ t → Spread (suc m) (cond t (ps ++ (p ∷ [])) ps)
      by_test true h =
          let both = (and-eq-true_iff (ltb (length ps) target) (free s (point_at ps) (length ps) p)).0 h in
          spread_more m ps p w e (ltb-true (length ps) target both.0) both.1
      by_test false h = spread_still m ps w

  -- the points kept of the first m seeds
  pub kept_spread : (m : ℕ) → Spread m (kept scene s target m)
  unfolding kept
  kept_spread zero = record { few = omega arith; lands = λ i h. absurd (omega arith); apart = λ i j l h. absurd (omega arith) }
  kept_spread (suc m) = spread_with m (kept scene s target m) (landed scene s (suc m)) refl (kept_spread m)

  -- and of all
  pub placed_spread : Spread (seed_count target) (placed scene s target)
  unfolding placed
  placed_spread = kept_spread (seed_count target)

  pub placed_few : length (placed scene s target) ≤ target
  placed_few = placed_spread.few

  -- each is nearer to the surface than 0.02 of the least distance, and no component is below lo or above hi
  pub placed_within : (i : ℕ) → i < length (placed scene s target)
      → (lt (abs (dist scene (point_at (placed scene s target) i))) (s.d_min *f of_bits binary32 0x3ca3_d70a) ≡ true) × (outside s.lo s.hi (point_at (placed scene s target) i) ≡ false)
  placed_within i h =
      let l = placed_spread.lands i h in
      landed_within scene s l.number (point_at (placed scene s target) i) l.there
