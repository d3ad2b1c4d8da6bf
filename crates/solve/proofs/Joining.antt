-- The runs of a list of solves, each from what the one before it left, are together one run of their total. Assumes nothing.
use mathlib.Core.Bool.{Bool, true, false, cond}
use mathlib.Core.List.{List, [], ◌∷◌}
use mathlib.Core.Logic.{◌⊎◌, inl, inr, ⊎_elim}
use mathlib.Core.Path.{◌≡◌, refl, sym, ap, subst, ◌∙◌}
use Prim.Native.Nat.{ℕ, ◌+◌}
use native.Mathlib.Nat.{zero-add}
use lib.ListN.{length}
use Rattle.std.specs.Prelude.{Result, Ok, Err}
use Rattle.accept.specs.declared.refusal.Refusal.{Refusal}
use Rattle.solve.specs.Runs.{Run, onward, run, clusters_after}
use Rattle.transfer.specs.Checks.{check}
use Rattle.transfer.specs.Needs.{Accepted}
use Rattle.solve.specs.Answers.{stats_of, solve_answer}
use Rattle.solve.specs.Calls.{surfels, LitRoom, with_light, Call, outcome, left, cut}
use Rattle.solve.specs.Continuation.{Made, runs, limits, Chain, up_to, together}
use Rattle.transfer.proofs.Acceptance.{accepted}
use Rattle.solve.proofs.Trimmed.{cut_run, run_cut}
use Rattle.solve.proofs.Onward.{has_stopped, joined_run, stopped_joined, onward_none, onward_stopped, onward_run}

-- ---- what a call does

-- why a call is refused, if it is
abbrev pub checked_call : Call → Result Unit Refusal
checked_call c = check c.handed.room c.limit (length c.handed.light.irr) (length c.handed.light.rad) (length c.scratch)

-- the run of a room, with its light
abbrev pub run_from : LitRoom → ℕ → Run
run_from g m = run g.room m g.light

-- a call that is not refused: it answers and leaves what the run of its room makes
pub record Ran (c : Call) : Type 0 where
  pub none : checked_call c ≡ Ok tt
  pub made : let q = run_from c.handed c.limit in
      outcome c ≡ (Ok (stats_of q), q.light, clusters_after c.handed.room q.bounces c.handed.light c.scratch)

-- a call that is refused: it leaves the light and the scratch
pub record RefusedCall (c : Call) : Type 0 where
  pub refusal : Refusal
  pub made : outcome c ≡ (Err refusal, c.handed.light, c.scratch)

-- a call that passes the tests is not refused
pub ran : (c : Call) → checked_call c ≡ Ok tt → Ran c
unfolding solve_answer
ran c e = record { none = e; made = rw e }

-- the law below, by what the tests say
outcome_by : (c : Call) (k : Result Unit Refusal) → checked_call c ≡ k → Ran c ⊎ RefusedCall c
unfolding solve_answer
outcome_by c (Ok u) e = inl (ran c e)
outcome_by c (Err refusal) e = inr (record { refusal = refusal; made = rw e })

-- every call is the one or the other
pub outcome_of : (c : Call) → Ran c ⊎ RefusedCall c
outcome_of c = outcome_by c (checked_call c) refl

-- ---- a call of a list

-- what a run of g's room made, with g's other surfel fields
abbrev pub made_of : LitRoom → Run → Made
made_of g q = record { bounces = q.bounces; last = q.last; surfels = surfels (with_light g q.light) }

-- a call that is not refused was handed a room that is accepted
pub ran_accepted : (c : Call) → Ran c → Accepted c.handed.room c.handed.light c.scratch
ran_accepted c w = accepted c.handed.room c.limit c.handed.light.irr c.handed.light.rad c.scratch w.none

-- the run of that room cut to its need is the run of the room, cut
run_of_cut : (c : Call) → Ran c → run_from (cut c.handed) c.limit ≡ cut_run c.handed.room.n (run_from c.handed c.limit)
run_of_cut c w = run_cut c.handed.room c.limit c.handed.light c.scratch (ran_accepted c w)

-- a call that is not refused, in the room g but for what lies past the need, answers what g's run made
pub ran_answer : (c : Call) (g : LitRoom) → Ran c → cut c.handed ≡ g → (outcome c).0 ≡ Ok (stats_of (run_from g c.limit))
ran_answer c g w e = rw w.made (ap (λ (q : Run). Ok (stats_of q)) (sym (run_of_cut c w)) ∙ ap (λ (x : LitRoom). Ok (stats_of (run_from x c.limit))) e)

-- and leaves what g's run leaves
pub ran_left : (c : Call) (g : LitRoom) → Ran c → cut c.handed ≡ g → cut (left c) ≡ with_light g (run_from g c.limit).light
ran_left c g w e =
    rw w.made
    (ap (λ (q : Run). with_light (cut c.handed) q.light) (sym (run_of_cut c w)) ∙ ap (λ (x : LitRoom). with_light x (run_from x c.limit).light) e)

module _ (c : Call) (cs : List Call) (w : Ran c) where
  -- the limit of a run is in the total
  limits_ran : limits (c ∷ cs) ≡ c.limit + limits cs
  limits_ran = rw w.made

  -- a run starts from the room that the list has come to, and the list goes on from what it leaves
  pub chain_ran : (g : LitRoom) → Chain g (c ∷ cs) → (cut c.handed ≡ g) × Chain (cut (left c)) cs
  chain_ran g ch = rw (ap (λ o. o.0) w.made) at ch

  -- what it made stands first
  runs_ran : (g : LitRoom) → cut c.handed ≡ g → runs (c ∷ cs) ≡ made_of g (run_from g c.limit) ∷ runs cs
  runs_ran g e =
      let q = run_from g c.limit in
      rw (ran_answer c g w e) (ap (λ (x : LitRoom). record { bounces = q.bounces; last = q.last; surfels = surfels x } ∷ runs cs) (ran_left c g w e))

module _ (c : Call) (cs : List Call) (w : RefusedCall c) where
  -- the limit of a refused call is not in the total
  limits_refused : limits (c ∷ cs) ≡ limits cs
  limits_refused = rw (w.made, zero-add)

  -- the list goes on from where it had come to
  pub chain_refused : (g : LitRoom) → Chain g (c ∷ cs) → Chain g cs
  chain_refused g ch = rw w.made at ch

  -- it is no run of the list
  runs_refused : runs (c ∷ cs) ≡ runs cs
  runs_refused = rw w.made

-- ---- the list

-- from any run q so far that has not stopped, with the list's first run from its light: q and the list's runs together are the run that goes on from q by their total
abbrev pub GoesOn : LitRoom → List Call → Type 0
GoesOn g cs =
    (q : Run) → has_stopped q ≡ false → Chain (with_light g q.light) cs
    → made_of g (onward g.room (limits cs) q) ≡ together (made_of g q) (up_to (runs cs))

-- after a run a of the list nothing is added where it has stopped, and else the rest of the list
after_by : (g : LitRoom) (q a : Run) (t : ℕ) (qs : List Made) (b : Bool) → has_stopped q ≡ false → has_stopped a ≡ b
    → (has_stopped (joined_run q a) ≡ false → made_of g (onward g.room t (joined_run q a)) ≡ together (made_of g (joined_run q a)) qs)
    → made_of g (onward g.room t (joined_run q a)) ≡ together (made_of g q) (made_of g a ∷ cond b [] qs)
after_by g q a t qs true e s h = ap (made_of g) (onward_stopped g.room t (joined_run q a) (stopped_joined q a e ∙ s))
after_by g q a t qs false e s h = h (stopped_joined q a e ∙ s)

-- a run before a list that goes on
goes_on_ran : (g : LitRoom) (c : Call) (cs : List Call) → Ran c → GoesOn g cs → GoesOn g (c ∷ cs)
goes_on_ran g c cs w rest q e ch =
    let h = with_light g q.light in
    let k = chain_ran c cs w h ch in
    let a = run g.room c.limit q.light in
    let chain : Chain (with_light g a.light) cs = subst (λ (x : LitRoom). Chain x cs) (ran_left c h w k.0) k.1 in
    ap (λ (m : ℕ). made_of g (onward g.room m q)) (limits_ran c cs w)
    ∙ ap (made_of g) (onward_run g.room c.limit (limits cs) q e)
    ∙ after_by g q a (limits cs) (up_to (runs cs)) _ e refl (λ s. rest (joined_run q a) s chain)
    ∙ sym (ap (λ (x : List Made). together (made_of g q) (up_to x)) (runs_ran c cs w h k.0))

-- a refused call before a list that goes on
goes_on_refused : (g : LitRoom) (c : Call) (cs : List Call) → RefusedCall c → GoesOn g cs → GoesOn g (c ∷ cs)
goes_on_refused g c cs w rest q e ch =
    rw (limits_refused c cs w, runs_refused c cs w) (rest q e (chain_refused c cs w (with_light g q.light) ch))

-- every list goes on so
pub goes_on : (g : LitRoom) (cs : List Call) → GoesOn g cs
goes_on g [] = λ q e ch. ap (made_of g) (onward_none g.room q)
goes_on g (c ∷ cs) = ⊎_elim (λ w. goes_on_ran g c cs w (goes_on g cs)) (λ w. goes_on_refused g c cs w (goes_on g cs)) (outcome_of c)
