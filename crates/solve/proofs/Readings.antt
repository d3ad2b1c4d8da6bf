-- What the definitions of the solve say, read back: how many bounces a run makes, what light they leave, when it stops, and that the two decimals are the nearest floats. Assumes nothing.
use mathlib.Core.Bool.{Bool, true, false}
use mathlib.Core.List.{[], ◌∷◌}
use mathlib.Core.Logic.{◌⊎◌, inl, inr}
use mathlib.Core.Path.{◌≡◌, refl}
use Prim.Native.Nat.{ℕ, zero, suc, ◌+◌, ◌≤◌}
use native.Mathlib.Nat.{add-zero, zero-add}
use native.Mathlib.Numerals.{add-one}
use native.Mathlib.Omega.{arith}
use lib.Dec.{eqb}
use lib.Ieee.{Float, binary32, nan, lt, of_bits, of_fields, round, units, odd, span, climb, size}
use borrow.Author.Tests.{ne_eqb}
use Rattle.float.specs.Arithmetic.{0f}
use Rattle.accept.proofs.Decimals.{nearest_to}
use Rattle.transfer.specs.Room.{Room, Light}
use Rattle.solve.specs.Bounce.{least_area, change}
use Rattle.solve.specs.Runs.{Run, no_bounce, next, change_limit, stopped, more, run, bounced}
use Rattle.solve.proofs.Onward.{either, same_by}

-- ---- bounces

-- without clusters no bounce is made, nor with a limit of 0
pub none_without_clusters : (r : Room) (m : ℕ) (l : Light) → r.clusters.nc ≡ 0 → run r m l ≡ no_bounce l
unfolding run
none_without_clusters r m l e = rw e

pub none_at_zero : (r : Room) (l : Light) → run r 0 l ≡ no_bounce l
unfolding run more
none_at_zero r l = same_by (eqb r.clusters.nc 0) (no_bounce l)

-- a run that goes on by m bounces at most makes no more, and makes them all unless it stops
abbrev Ended : Room → ℕ → Run → Type 0
Ended r m q =
    let made = more r m q in
    (made.bounces ≤ q.bounces + m) × ((stopped made.bounces made.last ≡ true) ⊎ (made.bounces ≡ q.bounces + m))

ended_by : (r : Room) (m : ℕ) (q : Run) (b : Bool) → stopped q.bounces q.last ≡ b → Ended r m (next r q) → Ended r (suc m) q
unfolding more next
ended_by r m q true e h = rw e (omega arith, inl e)
ended_by r m q false e h = let k : q.bounces + 1 + m ≡ q.bounces + suc m = omega arith in rw e (rw k at h)

pub more_ended : (r : Room) (m : ℕ) (q : Run) → Ended r m q
unfolding more
more_ended r zero q = (omega arith, inr (rw add-zero))
more_ended r (suc m) q = ended_by r m q _ refl (more_ended r m (next r q))

-- where there are clusters, a run makes at most its limit of bounces, and its limit unless it stops
pub run_ended : (r : Room) (m : ℕ) (l : Light) → (r.clusters.nc ≡ 0 → ⊥)
    → ((run r m l).bounces ≤ m) × ((stopped (run r m l).bounces (run r m l).last ≡ true) ⊎ ((run r m l).bounces ≡ m))
unfolding run
run_ended r m l h = rw (ne_eqb r.clusters.nc 0 h) (rw zero-add at (more_ended r m (no_bounce l)))

-- with clusters or without, a run makes at most its limit of bounces
pub run_most : (r : Room) (m : ℕ) (l : Light) → (run r m l).bounces ≤ m
run_most r m l = most_by r.clusters.nc refl
  where
    most_by : (k : ℕ) → r.clusters.nc ≡ k → (run r m l).bounces ≤ m
    most_by zero q = rw (none_without_clusters r m l q) (omega arith)
    most_by (suc k) q = (run_ended r m l (λ z. absurd (omega arith))).0

-- a run leaves the light of as many bounces as it made
abbrev BouncedFrom : Room → Light → Run → Type 0
BouncedFrom r l q = q.light ≡ bounced r q.bounces l

more_bounced : (r : Room) (l : Light) (m : ℕ) (q : Run) → BouncedFrom r l q → BouncedFrom r l (more r m q)
unfolding more next bounced
more_bounced r l zero q h = h
more_bounced r l (suc m) q h =
    either (BouncedFrom r l) (stopped q.bounces q.last) q (more r m (next r q)) h (more_bounced r l m (next r q) (rw (add-one q.bounces, h)))

pub run_bounced : (r : Room) (m : ℕ) (l : Light) → (run r m l).light ≡ bounced r (run r m l).bounces l
unfolding run bounced
run_bounced r m l = either (BouncedFrom r l) (eqb r.clusters.nc 0) (no_bounce l) (more r m (no_bounce l)) refl (more_bounced r l m (no_bounce l) refl)

-- the step of the k-th bounce from the light l, 0 where there is none
abbrev pub step_of : Room → ℕ → Light → Float
step_of r zero l = 0f
step_of r (suc k) l = change r (bounced r k l).rad

-- the last change of a run is the step of its last bounce
abbrev SteppedFrom : Room → Light → Run → Type 0
SteppedFrom r l q = (q.light ≡ bounced r q.bounces l) × (q.last ≡ step_of r q.bounces l)

more_stepped : (r : Room) (l : Light) (m : ℕ) (q : Run) → SteppedFrom r l q → SteppedFrom r l (more r m q)
unfolding more next bounced
more_stepped r l zero q h = h
more_stepped r l (suc m) q h =
    either (SteppedFrom r l) (stopped q.bounces q.last) q (more r m (next r q)) h (more_stepped r l m (next r q) (rw (add-one q.bounces, h.0), rw (add-one q.bounces, h.0)))

pub run_stepped : (r : Room) (m : ℕ) (l : Light) → (run r m l).last ≡ step_of r (run r m l).bounces l
unfolding run bounced
run_stepped r m l = (either (SteppedFrom r l) (eqb r.clusters.nc 0) (no_bounce l) (more r m (no_bounce l)) (refl, refl) (more_stepped r l m (no_bounce l) (refl, refl))).1

-- ---- when it stops

-- a change of 0.0001 does not stop a run and the float below does, a NaN does not, and no change stops one that made no bounce
pub stops : stopped 1 change_limit ∷ stopped 1 (of_bits binary32 0x38d1_b716) ∷ stopped 1 nan ∷ stopped 0 0f ∷ stopped 1 0f ∷ []
    ≡ false ∷ true ∷ false ∷ false ∷ true ∷ []
unfolding stopped of_bits of_fields lt
stops = refl

-- ---- the decimals

-- 1e-12 and 0.0001
pub decimals_nearest : least_area ∷ change_limit ∷ [] ≡ nearest_to 1 1000000000000 ∷ nearest_to 1 10000 ∷ []
unfolding of_bits of_fields round units odd span climb size
decimals_nearest = refl
