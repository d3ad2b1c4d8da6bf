-- A run under way: what the loop of bounces keeps, with one bounce more, and where it ends. Assumes nothing.
use mathlib.Core.Bool.{true, false}
use mathlib.Core.List.{List}
use mathlib.Core.Path.{◌≡◌, refl, ap, ◌∙◌}
use Prim.Native.Nat.{ℕ, zero, suc, ◌+◌, ◌-◌, ◌<◌, ◌≤◌}
use native.Mathlib.Numerals.{add-one}
use native.Mathlib.Omega.{arith}
use lib.Ieee.{Float}
use lib.ListN.{length}
use borrow.Author.Tests.{ne_eqb}
use Rattle.float.specs.Arithmetic.{0f}
use Rattle.vector.specs.Flat.{written}
use Rattle.vector.proofs.Replaced.{length_written}
use Rattle.transfer.specs.Room.{Room, Light}
use Rattle.solve.specs.Bounce.{new_irr, new_rad, bounce, change}
use Rattle.solve.specs.Runs.{Run, no_bounce, next, stopped, more, run, bounced, clusters_after}
use Rattle.transfer.specs.Needs.{Accepted}
use Rattle.transfer.proofs.Acceptance.{accepted_also}
use Rattle.solve.proofs.Bounced.{clusters_light, written_again}

-- the clusters' light of one bounce more, stored over that of the bounce before
after_more : (r : Room) (k : ℕ) (l : Light) (s : List Float) {d e : List Float}
    → d ≡ clusters_after r k l s → e ≡ written (clusters_light r (bounced r k l)) r.clusters.nc d → e ≡ clusters_after r (suc k) l s
unfolding clusters_after
after_more r zero l s p q = rw (q, p)
after_more r (suc k) l s p q =
    rw (q, p) (written_again (clusters_light r (bounced r (suc k) l)) (clusters_light r (bounced r k l)) r.clusters.nc s)

-- the run of so many bounces, with this last change and this light
abbrev pub made : ℕ → Float → Light → Run
made bounces last l = record { bounces = bounces; last = last; light = l }

-- a run from the light l₀ with the list s₀ has made so many of at most `most` bounces and is now at l and s; with those that are left it is the whole run
pub record Going (r : Room) (limit most : ℕ) (l₀ : Light) (s₀ : List Float) (bounces : ℕ) (last : Float) (l : Light) (s : List Float) : Type 0 where
  pub within : bounces ≤ most
  pub whole : more r (most - bounces) (made bounces last l) ≡ run r limit l₀
  pub lighted : l ≡ bounced r bounces l₀
  pub scratch : s ≡ clusters_after r bounces l₀ s₀
  pub irr_kept : length l.irr ≡ length l₀.irr
  pub rad_kept : length l.rad ≡ length l₀.rad
  pub scratch_kept : length s ≡ length s₀
  pub accepted : Accepted r l s

module _ {r : Room} {limit most : ℕ} {l : Light} {s : List Float} (ok : Accepted r l s) where
  -- no bounce is made yet
  going_none : more r most (no_bounce l) ≡ run r limit l → Going r limit most l s 0 0f l s
  unfolding bounced clusters_after
  going_none e =
      let all : most - 0 ≡ most = omega arith in
      record { within = omega arith; whole = rw all e; lighted = refl; scratch = refl; irr_kept = refl; rad_kept = refl; scratch_kept = refl; accepted = ok }

  -- without clusters none will be
  pub going_without : r.clusters.nc ≡ 0 → most ≡ 0 → Going r limit most l s 0 0f l s
  unfolding more run
  going_without h e = going_none (rw (e, h))

  -- with clusters at most so many as the limit says
  pub going_with : (r.clusters.nc ≡ 0 → ⊥) → most ≡ limit → Going r limit most l s 0 0f l s
  unfolding run
  going_with h e = going_none (rw (e, ne_eqb r.clusters.nc 0 h))

module _ {r : Room} {limit most b : ℕ} {l₀ l : Light} {s₀ s : List Float} {d : Float} (g : Going r limit most l₀ s₀ b d l s) where
  -- the limit is made
  pub going_ended : most ≤ b → made b d l ≡ run r limit l₀
  unfolding more
  going_ended h =
      let none : most - b ≡ 0 = omega arith in
      rw none at g.whole

  -- one bounce is left at least
  one_less : b < most → more r (suc (most - (b + 1))) (made b d l) ≡ run r limit l₀
  one_less h =
      let e : most - b ≡ suc (most - (b + 1)) = omega arith in
      rw e at g.whole

  -- the run stops early
  pub going_stopped : b < most → stopped b d ≡ true → made b d l ≡ run r limit l₀
  unfolding more
  going_stopped h e = rw e at (one_less h)

  -- it goes on, with one bounce more
  pub going_more : {e : Float} {m : Light} {t : List Float} → b < most → stopped b d ≡ false
      → m ≡ bounce r l → e ≡ change r l.rad → t ≡ written (clusters_light r l) r.clusters.nc s
      → Going r limit most l₀ s₀ (b + 1) e m t
  unfolding more next bounce bounced
  going_more {e} {m} {t} h goes p q u =
      let ok = g.accepted in
      let x = ap (λ (k : Light). length k.irr) p ∙ length_written (new_irr r l.rad) r.n l.irr ok.irrs in
      let y = ap (λ (k : Light). length k.rad) p ∙ length_written (new_rad r l.rad) r.n l.rad ok.clusters_held.each.rads in
      let z = ap length u ∙ length_written (clusters_light r l) r.clusters.nc s ok.rows_held.each.lights in
      record {
        within = omega arith;
        whole = rw (p, q) (rw goes at (one_less h));
        lighted = rw (p, g.lighted, add-one b);
        scratch = rw (add-one b) (after_more r b l₀ s₀ g.scratch (rw g.lighted at u));
        irr_kept = x ∙ g.irr_kept;
        rad_kept = y ∙ g.rad_kept;
        scratch_kept = z ∙ g.scratch_kept;
        accepted = accepted_also m t x y z ok;
      }
