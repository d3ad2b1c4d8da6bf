-- A bounce takes the right side of the radiosity balance, so that a bounce does not change rad just where rad is in balance, and the light before the last bounce of a run that stopped was in balance up to a step under 0.0001. Assumes nothing.
use mathlib.Core.Bool.{Bool, true, cond}
use mathlib.Core.List.{List}
use mathlib.Core.Path.{◌≡◌, refl, sym, ap, ◌∙◌}
use Prim.Native.Nat.{ℕ, zero, suc, ◌*◌, ◌≤◌}
use native.Mathlib.Omega.{arith}
use borrow.Author.Tests.{lt-ltb}
use lib.Ieee.{Float, lt}
use lib.ListN.{length}
use Rattle.vector.specs.Flat.{vec_at}
use Rattle.vector.proofs.Replaced.{at_written, written_there}
use Rattle.transfer.specs.Room.{Room, Light}
use Rattle.solve.specs.Bounce.{new_irr, new_rad, bounce, change}
use Rattle.solve.specs.Runs.{change_limit, stopped, run, bounced}
use Rattle.solve.specs.Balance.{Balanced, RightSideTaken, before, NearBalance}
use Rattle.solve.proofs.Readings.{step_of, run_bounced, run_stepped}

-- a bounce is the right side taken at the light before
pub right_side_taken : (r : Room) (l : Light) → RightSideTaken r l
unfolding bounce new_rad new_irr
right_side_taken r l =
    record {
      rad_taken = λ i h. at_written (new_rad r l.rad) r.n i l.rad h;
      irr_taken = λ i h. at_written (new_irr r l.rad) r.n i l.irr h;
    }

-- rad that a bounce does not change is in balance
pub left_balanced : (r : Room) (l : Light) → (bounce r l).rad ≡ l.rad → Balanced r l.rad
left_balanced r l e i h = sym (ap (λ (rad : List Float). vec_at rad i) e) ∙ (right_side_taken r l).rad_taken i h

-- and a bounce does not change rad that is in balance
pub balanced_left : (r : Room) (l : Light) → 3 * r.n ≤ length l.rad → Balanced r l.rad → (bounce r l).rad ≡ l.rad
unfolding bounce new_rad new_irr
balanced_left r l h e = written_there (new_rad r l.rad) r.n l.rad h e

-- what a run that stopped leaves, by how many bounces it made
near_by : (r : Room) (m : ℕ) (l : Light) (k : ℕ) → (run r m l).bounces ≡ k → stopped k (run r m l).last ≡ true → NearBalance r m l (bounced r (before k) l)
unfolding stopped bounced change new_rad new_irr
near_by r m l zero e h = absurd (let z : ◌≡◌ {A = ℕ} 0 1 = ap (λ (t : Bool). cond t 1 0) h in omega arith)
near_by r m l (suc k) e h =
    record {
      right_side_left = λ i j. ap (λ (g : Light). vec_at g.rad i) (run_bounced r m l ∙ ap (λ (t : ℕ). bounced r t l) e) ∙ (right_side_taken r (bounced r k l)).rad_taken i j;
      step_small = ap (λ (x : Float). lt x change_limit) (sym (run_stepped r m l ∙ ap (λ (t : ℕ). step_of r t l) e)) ∙ (rw (lt-ltb 0 (suc k) (omega arith)) at h);
    }

-- the light before the last bounce of a run that stopped was in balance up to a step under 0.0001
pub settled_near : (r : Room) (m : ℕ) (l : Light) → stopped (run r m l).bounces (run r m l).last ≡ true → NearBalance r m l (bounced r (before (run r m l).bounces) l)
settled_near r m l h = near_by r m l _ refl h
