-- The continuation law: any list of solves of a room, refused ones included, against one run of their total. Assumes nothing.
use mathlib.Core.List.{List, [], ◌∷◌}
use mathlib.Core.Logic.{⊎_elim}
use mathlib.Core.Path.{◌≡◌, refl, sym, ap, subst, ◌∙◌}
use Prim.Native.Nat.{ℕ, ◌+◌, ◌*◌, ◌≤◌}
use native.Mathlib.Omega.{arith}
use lib.Ieee.{Float}
use lib.ListN.{length, take, length-take}
use lib.Seq.{take-take}
use Rattle.accept.specs.Limits.{max_bounces}
use Rattle.std.specs.Prelude.{Ok}
use Rattle.transfer.specs.Room.{Room}
use Rattle.solve.specs.Runs.{no_bounce, stopped}
use Rattle.transfer.specs.Checks.{check}
use Rattle.solve.specs.Calls.{surfels, LitRoom, Call, left, cut}
use Rattle.solve.specs.Continuation.{Made, limits, Chain, taken, one_run, whole, Answers, Kept, PastKept, Each, IfRefused, IfRun, Continuation}
use Rattle.solve.proofs.Trimmed.{run_past, clusters_past}
use Rattle.solve.proofs.Refusals.{check_cut, also_accepted}
use Rattle.solve.proofs.Onward.{run_onward}
use Rattle.solve.proofs.Joining.{checked_call, run_from, Ran, RefusedCall, ran, outcome_of, made_of, ran_accepted, ran_answer, ran_left, chain_ran, chain_refused, goes_on}

-- ---- each call

-- each call of a list has what every call has
each : (P : Call → Type 0) → ((c : Call) → P c) → (cs : List Call) → Each P cs
each P h [] = tt
each P h (c ∷ cs) = (h c, each P h cs)

-- what is said of refused calls holds of a call if it does where the call is refused
if_refused : (P : Call → Type 0) → ((c : Call) → RefusedCall c → P c) → (c : Call) → IfRefused P c
if_refused P h c = ⊎_elim (λ w. rw w.made tt) (λ w. rw w.made (h c w)) (outcome_of c)

-- what is said of runs holds of a call if it does where the call is not refused
if_run : (P : Call → Type 0) → ((c : Call) → Ran c → P c) → (c : Call) → IfRun P c
if_run P h c = ⊎_elim (λ w. rw w.made (h c w)) (λ w. rw w.made tt) (outcome_of c)

-- a refused call leaves the surfels and the scratch
refused_kept : (c : Call) → RefusedCall c → Kept c
refused_kept c w = record { surfels_kept = rw w.made; scratch_kept = rw w.made }

-- a run leaves what lies past the need
past_kept : (c : Call) → Ran c → PastKept c
past_kept c w =
    let r = c.handed.room in
    let l = c.handed.light in
    record {
      irr_past = rw w.made (run_past r c.limit l).0;
      rad_past = rw w.made (run_past r c.limit l).1;
      scratch_past = rw w.made (clusters_past r (run_from c.handed c.limit).bounces l c.scratch);
    }

-- ---- the one run

-- it is what the runs taken made together
one_run_lem : (g : LitRoom) (cs : List Call) → Chain g cs → one_run g (limits cs) ≡ taken g cs
unfolding stopped
one_run_lem g cs ch = ap (made_of g) (run_onward g.room (limits cs) g.light) ∙ goes_on g cs (no_bounce g.light) refl ch

-- ---- the one run by the entry

-- irr and rad of a room hold its surfels
abbrev LightHeld : LitRoom → Type 0
LightHeld g = (3 * g.room.n ≤ length g.light.irr) × (3 * g.room.n ≤ length g.light.rad)

-- those of a room that a run started from do
ran_held : (c : Call) (g : LitRoom) → Ran c → cut c.handed ≡ g → LightHeld g
ran_held c g w e =
    let ok = ran_accepted c w in
    subst LightHeld e (simp length-take (omega (arith, ok.irrs)), simp length-take (omega (arith, ok.clusters_held.each.rads)))

-- and so do those of a room that is the same when cut to its need
longer_held : (h g : LitRoom) → cut h ≡ g → LightHeld g → LightHeld h
longer_held h g e held =
    let k : LightHeld (cut h) = subst LightHeld (sym e) held in
    let i = length-take (3 * h.room.n) h.light.irr in
    let b = length-take (3 * h.room.n) h.light.rad in
    (omega (arith, k.0, i), omega (arith, k.1, b))

-- where a run is not refused, neither is its limit in a room that is the same when cut to its need
same_accepted : (c : Call) (h : LitRoom) (r : Room) → Ran c → (cut c.handed).room ≡ r → (cut h).room ≡ r
    → check h.room c.limit (length c.handed.light.irr) (length c.handed.light.rad) (length c.scratch) ≡ Ok tt
same_accepted c h r w e d =
    let i = length c.handed.light.irr in
    let b = length c.handed.light.rad in
    let s = length c.scratch in
    sym (check_cut h.room c.limit i b s)
    ∙ ap (λ (x : Room). check x c.limit i b s) (d ∙ sym e)
    ∙ check_cut c.handed.room c.limit i b s
    ∙ w.none

-- and neither is a total of at most 4,096 there, with that run's scratch
whole_accepted : (c : Call) (h g : LitRoom) (m : ℕ) → Ran c → (cut c.handed).room ≡ g.room → cut h ≡ g → LightHeld g → m ≤ max_bounces
    → checked_call (whole h m c.scratch) ≡ Ok tt
whole_accepted c h g m w e d held few =
    let k = longer_held h g d held in
    also_accepted h.room c.limit (length c.handed.light.irr) (length c.handed.light.rad) (length c.scratch) m (length h.light.irr)
    (length h.light.rad) (same_accepted c h g.room w e (ap (λ (x : LitRoom). x.room) d)) few k.0 k.1

-- a call of the total that is not refused answers the one run, and leaves its surfels
whole_answers : (h g : LitRoom) (m : ℕ) (s : List Float) (q : Made) → cut h ≡ g → one_run g m ≡ q → Ran (whole h m s) → Answers (whole h m s) q
whole_answers h g m s q d e w =
    record {
      answer = ran_answer (whole h m s) g w d ∙ ap (λ (x : Made). Ok (record { bounces = x.bounces; change = x.last })) e;
      surfels_left = ap (λ (x : LitRoom). surfels x) (ran_left (whole h m s) g w d) ∙ ap (λ (x : Made). x.surfels) e;
    }

module _ (g : LitRoom) (m : ℕ) (few : m ≤ max_bounces) (q : Made) (e : one_run g m ≡ q) where
  -- so with the scratch of each run of a list of solves of g's room, which goes on from the room f
  entry_answers : (cs : List Call) (f : LitRoom) → f.room ≡ g.room → (LightHeld f → LightHeld g) → Chain f cs
      → Each (IfRun (λ c. (h : LitRoom) → cut h ≡ g → Answers (whole h m c.scratch) q)) cs
  entry_answers [] f same held ch = tt
  entry_answers (c ∷ cs) f same held ch =
      ⊎_elim
      (λ (w : Ran c).
      let k = chain_ran c cs w f ch in
      let enough = held (ran_held c f w k.0) in
      let here = ap (λ (x : LitRoom). x.room) k.0 ∙ same in (
        rw w.made (λ h d. whole_answers h g m c.scratch q d e (ran (whole h m c.scratch) (whole_accepted c h g m w here d enough few))),
        entry_answers cs (cut (left c)) (ap (λ (x : LitRoom). x.room) (ran_left c f w k.0) ∙ same) (λ x. enough) k.1,
      ))
      (λ (w : RefusedCall c). (rw w.made tt, entry_answers cs f same held (chain_refused c cs w f ch)))
      (outcome_of c)

-- a list cut once more to the same length
once : {A : Type 0} (n : ℕ) (l : List A) → take n (take n l) ≡ take n l
once n l = take-take n n l (omega arith)

-- a room that is cut to its need is as given itself: the entry may be called with it
pub cut_again : (h : LitRoom) → cut (cut h) ≡ cut h
cut_again h =
    rw (
      once (3 * h.room.n) h.p,
      once (3 * h.room.n) h.normals,
      once (3 * h.room.n) h.room.albedo,
      once h.room.n h.room.area,
      once (3 * h.room.n) h.room.direct,
      once h.room.clusters.nc h.room.clusters.area,
      once h.room.clusters.nc h.room.clusters.first,
      once h.room.clusters.nc h.room.clusters.count,
      once h.room.clusters.members h.room.clusters.member,
      once (h.room.n + 1) h.room.rows.starts,
      once h.room.rows.links h.room.rows.cluster,
      once h.room.rows.links h.room.rows.weight,
      once (3 * h.room.n) h.light.irr,
      once (3 * h.room.n) h.light.rad,
    )

-- ---- the law

-- demand 3
pub continuation : Continuation
continuation g cs few ch =
    record {
      by_definition = one_run_lem g cs ch;
      by_entry = entry_answers g (limits cs) few (taken g cs) (one_run_lem g cs ch) cs g refl (λ held. held) ch;
      kept = each (IfRefused Kept) (if_refused Kept refused_kept) cs;
      past = each (IfRun PastKept) (if_run PastKept past_kept) cs;
    }
