-- Runs that go on: more bounces after those of any run made so far. Assumes nothing.
use mathlib.Core.Bool.{Bool, true, false, cond}
use mathlib.Core.Path.{◌≡◌, refl, ap, ◌∙◌}
use Prim.Native.Nat.{ℕ, zero, suc, ◌+◌}
use native.Mathlib.Nat.{zero-add, add-zero, add-suc, suc-add, add_assoc}
use native.Mathlib.Numerals.{add-one}
use lib.Dec.{eqb, ltb, leb-zero, leb-suc-suc, eqb-suc-zero}
use lib.Ieee.{Float}
use Rattle.transfer.specs.Room.{Room, Light}
use Rattle.solve.specs.Runs.{Run, no_bounce, next, stopped, more, onward, run}

-- whether a run so far has stopped
abbrev pub has_stopped : Run → Bool
has_stopped q = stopped q.bounces q.last

-- one run after another: the bounces of both, the last change of the last that made a bounce, the light of the second
abbrev pub joined_run : Run → Run → Run
joined_run q a = record { bounces = q.bounces + a.bounces; last = cond (eqb a.bounces 0) q.last a.last; light = a.light }

-- ---- whether two runs together have stopped

-- a number of bounces that is not 0 is more than 0
some_bounces : (k : ℕ) → ltb 0 (suc k) ≡ true
some_bounces k = leb-suc-suc 0 k ∙ leb-zero k

-- where the second made a bounce, they have stopped if it has
stopped_later : (n k : ℕ) (d e : Float) → stopped (n + suc k) (cond (eqb (suc k) 0) d e) ≡ stopped (suc k) e
unfolding stopped
stopped_later n k d e = rw (add-suc, some_bounces (n + k), some_bounces k, eqb-suc-zero)

-- where the first has not stopped, they have if the second has, of their bounces and last changes
stopped_by : (n k : ℕ) (d e : Float) → stopped n d ≡ false → stopped (n + k) (cond (eqb k 0) d e) ≡ stopped k e
unfolding stopped
stopped_by n zero d e h = rw add-zero h
stopped_by n (suc k) d e h = stopped_later n k d e

-- where the first has not stopped, they have if the second has
pub stopped_joined : (q a : Run) → has_stopped q ≡ false → has_stopped (joined_run q a) ≡ has_stopped a
stopped_joined q a h = stopped_by q.bounces a.bounces q.last a.last h

-- ---- bounces after bounces

-- a run that has stopped makes no bounce more
pub more_stopped : (r : Room) (t : ℕ) (q : Run) → has_stopped q ≡ true → more r t q ≡ q
unfolding more
more_stopped r zero q e = refl
more_stopped r (suc t) q e = rw e

-- one that has not makes the next
pub more_next : (r : Room) (t : ℕ) (q : Run) → has_stopped q ≡ false → more r (suc t) q ≡ more r t (next r q)
unfolding more
more_next r t q e = rw e

-- the law below for m + 1 bounces, where it holds for m after the next
more_more_by : (r : Room) (m t : ℕ) (q : Run) (b : Bool) → has_stopped q ≡ b
    → more r (m + t) (next r q) ≡ more r t (more r m (next r q))
    → more r (suc (m + t)) q ≡ more r t (more r (suc m) q)
more_more_by r m t q true e h = rw (more_stopped r (suc (m + t)) q e, more_stopped r (suc m) q e, more_stopped r t q e)
more_more_by r m t q false e h = rw (more_next r (m + t) q e, more_next r m q e) h

-- at most m + t bounces more are at most m, and then at most t
pub more_more : (r : Room) (m t : ℕ) (q : Run) → more r (m + t) q ≡ more r t (more r m q)
unfolding more
more_more r zero t q = rw zero-add
more_more r (suc m) t q = rw suc-add (more_more_by r m t q _ refl (more_more r m t (next r q)))

-- ---- a run that goes on, and the run from its light

-- a run that made a bounce
abbrev ran_of : ℕ → Float → Light → Run
ran_of k d l = record { bounces = suc k; last = d; light = l }

-- the next bounce of two runs together is that of the second
next_joined : (r : Room) (q a : Run) → next r (joined_run q a) ≡ joined_run q (next r a)
unfolding next
next_joined r q a = rw (add_assoc, add-one a.bounces, eqb-suc-zero)

-- the law below for t + 1 bounces, where it holds for t after the next
more_later_by : (r : Room) (t : ℕ) (q : Run) (k : ℕ) (d : Float) (l : Light) (b : Bool) → stopped (suc k) d ≡ b
    → more r t (joined_run q (next r (ran_of k d l))) ≡ joined_run q (more r t (next r (ran_of k d l)))
    → more r (suc t) (joined_run q (ran_of k d l)) ≡ joined_run q (more r (suc t) (ran_of k d l))
more_later_by r t q k d l true e h =
    rw (more_stopped r (suc t) (ran_of k d l) e) (more_stopped r (suc t) (joined_run q (ran_of k d l)) (stopped_later q.bounces k q.last d ∙ e))
more_later_by r t q k d l false e h =
    more_next r t (joined_run q (ran_of k d l)) (stopped_later q.bounces k q.last d ∙ e) ∙ rw (next_joined, h, more_next r t (ran_of k d l) e)

-- where the second made a bounce, two runs together go on as it does
pub more_later : (r : Room) (t : ℕ) (q : Run) (k : ℕ) (d : Float) (l : Light) → more r t (joined_run q (ran_of k d l)) ≡ joined_run q (more r t (ran_of k d l))
unfolding more next
more_later r zero q k d l = refl
more_later r (suc t) q k d l = more_later_by r t q k d l _ refl (rw add-one (more_later r t q (suc k) _ _))

-- a run that has not stopped goes on as the run from its light, put after it
pub more_joined : (r : Room) (t : ℕ) (q : Run) → has_stopped q ≡ false → more r t q ≡ joined_run q (more r t (no_bounce q.light))
unfolding more stopped next
more_joined r zero q e = rw add-zero
more_joined r (suc t) q e = more_next r t q e ∙ more_later r t q 0 _ _

-- ---- the same, with clusters or without

-- a run goes on from no bounce
pub run_onward : (r : Room) (m : ℕ) (l : Light) → run r m l ≡ onward r m (no_bounce l)
unfolding run
run_onward r m l = refl

-- what holds of two runs holds of either
pub either : (P : Run → Type 0) (b : Bool) (q t : Run) → P q → P t → P (cond b q t)
either P true q t x y = x
either P false q t x y = y

-- a choice between a run and itself is the run
pub same_by : (b : Bool) (q : Run) → cond b q q ≡ q
same_by true q = refl
same_by false q = refl

-- no bounce more leaves the run
pub onward_none : (r : Room) (q : Run) → onward r 0 q ≡ q
unfolding more
onward_none r q = same_by (eqb r.clusters.nc 0) q

-- a run that has stopped makes no bounce more
pub onward_stopped : (r : Room) (t : ℕ) (q : Run) → has_stopped q ≡ true → onward r t q ≡ q
onward_stopped r t q e = rw (more_stopped r t q e) (same_by (eqb r.clusters.nc 0) q)

-- the law below, with clusters or without
onward_by : (b : Bool) (r : Room) (m t : ℕ) (q : Run) → cond b q (more r (m + t) q) ≡ cond b (cond b q (more r m q)) (more r t (cond b q (more r m q)))
onward_by true r m t q = refl
onward_by false r m t q = more_more r m t q

-- at most m + t bounces more are at most m, and then at most t
pub onward_onward : (r : Room) (m t : ℕ) (q : Run) → onward r (m + t) q ≡ onward r t (onward r m q)
onward_onward r m t q = onward_by (eqb r.clusters.nc 0) r m t q

-- the law below, with clusters or without
joined_by : (b : Bool) (r : Room) (t : ℕ) (q : Run) → has_stopped q ≡ false
    → cond b q (more r t q) ≡ joined_run q (cond b (no_bounce q.light) (more r t (no_bounce q.light)))
joined_by true r t q e = rw add-zero
joined_by false r t q e = more_joined r t q e

-- a run that has not stopped goes on as the run from its light, put after it
pub onward_joined : (r : Room) (t : ℕ) (q : Run) → has_stopped q ≡ false → onward r t q ≡ joined_run q (run r t q.light)
unfolding run
onward_joined r t q e = joined_by (eqb r.clusters.nc 0) r t q e

-- at most m + t bounces more of a run that has not stopped are those of the run of at most m from its light, put after it, and then at most t
pub onward_run : (r : Room) (m t : ℕ) (q : Run) → has_stopped q ≡ false → onward r (m + t) q ≡ onward r t (joined_run q (run r m q.light))
onward_run r m t q e = onward_onward r m t q ∙ ap (λ (x : Run). onward r t x) (onward_joined r m q e)
