-- What the definitions of the reading say, read back: when a point is unseen, that many readings are the single ones, and that the two decimals are the nearest floats. Assumes nothing.
use Rattle.std.specs.Prelude.{Ok, Err, Result}
use mathlib.Core.Bool.{Bool, true, false, cond, ◌&&◌, and-eq-true_iff}
use mathlib.Core.List.{List, [], ◌∷◌}
use mathlib.Core.Logic.{◌↔◌}
use mathlib.Core.Path.{◌≡◌, refl}
use Prim.Native.Nat.{ℕ, suc, ◌<◌}
use native.Mathlib.Omega.{arith}
use lib.Ieee.{Float, nan, lt, of_bits, of_fields, round, units, odd, span, climb, size}
use lib.ListN.{length, get_or}
use Rattle.float.specs.Arithmetic.{◌*f◌}
use Rattle.vector.specs.declared.Vec3.{Vec3}
use Rattle.vector.specs.Vector.{dot, minus, length_squared}
use Rattle.vector.specs.Flat.{vec_at, filled, written}
use Rattle.vector.proofs.Replaced.{at_filled, at_written}
use Rattle.accept.specs.Ranges.{point, coordinates}
use Rattle.accept.specs.Refusal.{outcome}
use Rattle.accept.specs.Tables.{number_at}
use Rattle.accept.specs.declared.refusal.Refusal.{Refusal}
use Rattle.accept.proofs.Bounded.{coordinates_at}
use Rattle.accept.proofs.Decimals.{nearest_to}
use Rattle.grid.specs.declared.checks.Own.{Own}
use Rattle.grid.specs.Lent.{Grid}
use Rattle.grid.specs.Visiting.{visited}
use Rattle.surfel.specs.declared.Probe.{Probe}
use Rattle.surfel.specs.declared.Reading.{Reading}
use Rattle.surfel.specs.declared.Reading.TheVariants.{Seen, Unseen}
use Rattle.surfel.specs.declared.Surfel.{Surfel}
use Rattle.surfel.specs.declared.Weighed.{Weighed}
use Rattle.surfel.specs.Checks.{Probes, probes_own, check, check_all}
use Rattle.surfel.specs.Answers.{reading_at, seen_number, seen_light, gather_answer, gather_all_answer}
use Rattle.surfel.specs.Gathering.{Surfels, surfel_at, weigh_all, gather}
use Rattle.surfel.specs.Weighing.{align_limit, weight_limit, reading, nothing, counts_at, weigh}
use Rattle.surfel.proofs.Acceptance.{not_refused}

-- ---- unseen

-- a test that gives unseen did not hold
unseen_by : (b : Bool) (light : Vec3) → cond b (Seen light) Unseen ≡ Unseen → b ≡ false
unseen_by true light e = absurd (let z : ◌≡◌ {A = ℕ} 0 1 = cc in omega arith)
unseen_by false light e = refl

-- unseen if and only if the sum of the weights does not exceed 0.000001
pub unseen_iff : (a : Weighed) → (reading a ≡ Unseen) ↔ (lt weight_limit a.weight ≡ false)
unfolding reading
unseen_iff a = (λ e. unseen_by _ _ e, λ e. rw e)

-- a NaN does not exceed it
pub nan_unseen : (a : Weighed) → a.weight ≡ nan → reading a ≡ Unseen
unfolding reading lt of_bits of_fields
nan_unseen a e = rw e

-- the sums of the surfels that a reading visits
abbrev pub weighed_at : Grid → Surfels → Vec3 → Vec3 → Float → Weighed
weighed_at g s at normal radius = weigh_all s (record { p = at; n = normal; r2 = radius *f radius }) nothing (visited g at 1)

-- a point is unseen if and only if their weights do not exceed 0.000001
pub gather_unseen : (g : Grid) (s : Surfels) (at normal : Vec3) (radius : Float)
    → (gather g s at normal radius ≡ Unseen) ↔ (lt weight_limit (weighed_at g s at normal radius).weight ≡ false)
unfolding gather
gather_unseen g s at normal radius = unseen_iff (weighed_at g s at normal radius)

-- where no surfel is visited, the point is unseen
pub none_visited : (g : Grid) (s : Surfels) (at normal : Vec3) (radius : Float) → visited g at 1 ≡ [] → gather g s at normal radius ≡ Unseen
unfolding gather reading lt of_bits of_fields
none_visited g s at normal radius e = rw e

-- a surfel covers a probe: it counts there
abbrev pub covers : Probe → Surfel → Bool
covers probe s = counts_at (length_squared (minus s.p probe.p)) probe.r2 (dot s.n probe.n)

left_out : (probe : Probe) (a : Weighed) (s : Surfel) → covers probe s ≡ false → weigh probe a s ≡ a
unfolding weigh
left_out probe a s h = rw h

none_weighed : (s : Surfels) (probe : Probe) (a : Weighed) (l : List ℕ) → ((k : ℕ) → k < length l → covers probe (surfel_at s (number_at l k)) ≡ false)
    → weigh_all s probe a l ≡ a
none_weighed s probe a [] h = refl
none_weighed s probe a (x ∷ l) h =
    rw (left_out probe a (surfel_at s x) (h 0 (omega arith))) (none_weighed s probe a l (λ k q. h (suc k) (omega arith)))

-- a point that none of the surfels visited covers is unseen
pub uncovered : (g : Grid) (s : Surfels) (at normal : Vec3) (radius : Float)
    → ((k : ℕ) → k < length (visited g at 1) → covers (record { p = at; n = normal; r2 = radius *f radius }) (surfel_at s (number_at (visited g at 1) k)) ≡ false)
    → gather g s at normal radius ≡ Unseen
unfolding gather reading lt of_bits of_fields
uncovered g s at normal radius h = rw (none_weighed s (record { p = at; n = normal; r2 = radius *f radius }) nothing (visited g at 1) h)

-- a reading is told by what is written of it
pub seen_back : (r : Reading) → seen_number r ≡ 1 → r ≡ Seen (seen_light r)
seen_back (Seen light) e = refl
seen_back Unseen e = absurd (omega arith)

pub unseen_back : (r : Reading) → seen_number r ≡ 0 → r ≡ Unseen
unseen_back (Seen light) e = absurd (omega arith)
unseen_back Unseen e = refl

-- ---- many readings

-- where one call on these tables is not refused, no other is whose own tests pass
also_accepted : (g : Grid) (s : Surfels) (own : Own) (also : Bool) → check g s own ≡ Ok tt → also ≡ true
    → check g s (record { few = true; ranged = own.ranged; lent = true; floats = also }) ≡ Ok tt
unfolding check
also_accepted g s own also e h =
    let a = not_refused g s own e in
    rw h (rw (a.few_passed, a.lent_passed, a.floats_passed) at e)

-- an answer that is done was not refused
done_by : (r : Result Unit Refusal) (x y : List ℕ × List Float)
    → (outcome {A = Result Unit Refusal × List ℕ × List Float} (λ refusal. (Err refusal, y.0, y.1)) (Ok tt, x.0, x.1) r).0 ≡ Ok tt → r ≡ Ok tt
done_by (Ok u) x y e = refl
done_by (Err refusal) x y e = absurd cc

module _ (g : Grid) (s : Surfels) (q : Probes) (seen : List ℕ) (light : List Float) where
  -- the tests of the probes
  abbrev own : Own
  own = probes_own q (length seen) (length light)

  -- readings that are done were not refused
  all_checked : (gather_all_answer g s q seen light).0 ≡ Ok tt → check g s own ≡ Ok tt
  unfolding gather_all_answer
  all_checked e = done_by (check g s own) (filled (λ i. seen_number (reading_at g s q i)) q.count seen, written (λ i. seen_light (reading_at g s q i)) q.count light) (seen, light) e

  -- what is left where the readings are done
  pub all_done : (gather_all_answer g s q seen light).0 ≡ Ok tt
      → gather_all_answer g s q seen light ≡ (Ok tt, filled (λ i. seen_number (reading_at g s q i)) q.count seen, written (λ i. seen_light (reading_at g s q i)) q.count light)
  unfolding gather_all_answer
  all_done e = rw (all_checked e)

  -- readings that are refused leave the slices as they were
  pub all_refused : {refusal : Refusal} → check_all g s q (length seen) (length light) ≡ Err refusal
      → gather_all_answer g s q seen light ≡ (Err refusal, seen, light)
  unfolding gather_all_answer
  all_refused e = rw e

  module _ (e : (gather_all_answer g s q seen light).0 ≡ Ok tt) (i : ℕ) (h : i < q.count) where
    -- what is seen of probe i is what the reading there sees
    pub seen_at : get_or (gather_all_answer g s q seen light).1 i 0 ≡ seen_number (reading_at g s q i)
    seen_at = rw (all_done e) (at_filled (λ i. seen_number (reading_at g s q i)) q.count i seen 0 h)

    -- and its light is the light there
    pub light_at_lem : vec_at (gather_all_answer g s q seen light).2 i ≡ seen_light (reading_at g s q i)
    light_at_lem = rw (all_done e) (at_written (λ i. seen_light (reading_at g s q i)) q.count i light h)

    -- and so it is what the single reading answers
    pub single_at : gather_answer g s (vec_at q.p i) (vec_at q.normals i) q.radius ≡ Ok (reading_at g s q i)
    unfolding gather_answer
    single_at =
        let z = all_checked e in
        let both = (and-eq-true_iff (coordinates q.p q.count) (coordinates q.normals q.count)).0 (not_refused g s own z).floats_passed in
        let at = coordinates_at q.p q.count both.0 i h in
        let normal = coordinates_at q.normals q.count both.1 i h in
        let Floats-at = point (vec_at q.p i) && point (vec_at q.normals i) in
        rw (also_accepted g s own Floats-at z (rw at normal))

-- ---- the decimals

-- 0.15 and 0.000001
pub decimals_nearest : align_limit ∷ weight_limit ∷ [] ≡ nearest_to 15 100 ∷ nearest_to 1 1000000 ∷ []
unfolding of_bits of_fields round units odd span climb size
decimals_nearest = refl
