-- The continuation law, demand 3: any list of solves of a room, refused ones included, against one run of their total. Definitions and the statement only; its proof is
-- `continuation` in proofs/Continued. Beside each part stand the words that it writes down.
use Rattle.std.specs.Prelude.{cond, List, [], ◌∷◌, ◌++◌, ◌≡◌, ℕ, ◌+◌, ◌*◌, ◌≤◌, eqb, Float, drop, Result, Ok, Err}
use Rattle.float.specs.Arithmetic.{0f}
use Rattle.accept.specs.Limits.{max_bounces}
use Rattle.accept.specs.declared.refusal.Refusal.{Refusal}
use Rattle.solve.specs.declared.SolveStats.{SolveStats}
use Rattle.solve.specs.Runs.{stopped, run}
use Rattle.solve.specs.Calls.{Surfels, surfels, LitRoom, with_light, Call, outcome, left, cut}

-- what was made: the bounces, the last change, and the surfels left
pub record Made : Type 0 where
  pub bounces : ℕ
  pub last : Float
  pub surfels : Surfels

-- "The list's runs are the solves not refused": what each made, in the order of the list, its surfels cut to their need
abbrev pub run_by : Result SolveStats Refusal → Surfels → List Made
run_by (Err refusal) s = []
run_by (Ok made) s = record { bounces = made.bounces; last = made.change; surfels = s } ∷ []

abbrev pub runs : List Call → List Made
runs [] = []
runs (c ∷ cs) = run_by (outcome c).0 (surfels (cut (left c))) ++ runs cs

-- "the whole list's total": the limits of the runs added up; of a refused solve "its limit isn't counted"
abbrev pub limit_by : Result SolveStats Refusal → ℕ → ℕ
limit_by (Err refusal) limit = 0
limit_by (Ok made) limit = limit

abbrev pub limits : List Call → ℕ
limits [] = 0
limits (c ∷ cs) = limit_by (outcome c).0 c.limit + limits cs

-- of two claims, the one for a refused answer or the one for a run
abbrev pub ByAnswer : Result SolveStats Refusal → Type 0 → Type 0 → Type 0
ByAnswer (Err refusal) refused ran = refused
ByAnswer (Ok made) refused ran = ran

-- "the first starts from the room as given, each later one from the surfels the run before it left, and nobody else writes these meanwhile"; "the solves that aren't refused get
-- the same room, all but irr and rad, and any scratch; a refused one may be handed anything, other surfels too, and the next goes on from the room's own". Rooms are compared as
-- cut to their need: what a list holds past it is free. So g is a room cut to its need; of one in longer lists take its cut.
abbrev pub Chain : LitRoom → List Call → Type 0
Chain g [] = Unit
Chain g (c ∷ cs) = ByAnswer (outcome c).0 (Chain g cs) ((cut c.handed ≡ g) × Chain (cut (left c)) cs)

-- "Take the runs up to and including the first that settled (one bounce or more, last change under 0.0001), or all of them if none did"
abbrev pub up_to : List Made → List Made
up_to [] = []
up_to (q ∷ qs) = q ∷ cond (stopped q.bounces q.last) [] (up_to qs)

-- one after the other: "as many bounces as they do together", "the last change of the last of them that made a bounce", the surfels that the last left
abbrev pub joined : Made → Made → Made
joined q a = record { bounces = q.bounces + a.bounces; last = cond (eqb a.bounces 0) q.last a.last; surfels = a.surfels }

abbrev pub together : Made → List Made → Made
together q [] = q
together q (a ∷ l) = together (joined q a) l

-- where no run was made yet: no bounce, "or 0 if none did", the surfels as given
abbrev pub no_run : Surfels → Made
no_run s = record { bounces = 0; last = 0f; surfels = s }

-- what the runs taken made together
abbrev pub taken : LitRoom → List Call → Made
taken g cs = together (no_run (surfels g)) (up_to (runs cs))

-- "one run of the whole list's total by demand 2's bounce, from the room as given"
abbrev pub one_run : LitRoom → ℕ → Made
one_run g m =
    let q = run g.room m g.light in
    record { bounces = q.bounces; last = q.last; surfels = surfels (with_light g q.light) }

-- the entry called with a total, a room as lent and some scratch
abbrev pub whole : LitRoom → ℕ → List Float → Call
whole h m s = record { handed = h; limit = m; scratch = s }

-- a call answers q, and leaves its surfels, cut to their need
pub record Answers (c : Call) (q : Made) : Type 0 where
  pub answer : (outcome c).0 ≡ Ok (record { bounces = q.bounces; change = q.last })
  pub surfels_left : surfels (cut (left c)) ≡ q.surfels

-- "A refused solve leaves every surfel as it was", as lent; and its scratch
pub record Kept (c : Call) : Type 0 where
  pub surfels_kept : surfels (left c) ≡ surfels c.handed
  pub scratch_kept : (outcome c).2 ≡ c.scratch

-- places past the need are as lent
pub record PastKept (c : Call) : Type 0 where
  pub irr_past : drop (3 * c.handed.room.n) (left c).light.irr ≡ drop (3 * c.handed.room.n) c.handed.light.irr
  pub rad_past : drop (3 * c.handed.room.n) (left c).light.rad ≡ drop (3 * c.handed.room.n) c.handed.light.rad
  pub scratch_past : drop (3 * c.handed.room.clusters.nc) (outcome c).2 ≡ drop (3 * c.handed.room.clusters.nc) c.scratch

-- each call of a list
abbrev pub Each : (Call → Type 0) → List Call → Type 0
Each P [] = Unit
Each P (c ∷ cs) = P c × Each P cs

-- of a solve that is refused, and of one that is not
abbrev pub IfRefused : (Call → Type 0) → Call → Type 0
IfRefused P c = ByAnswer (outcome c).0 (P c) Unit

abbrev pub IfRun : (Call → Type 0) → Call → Type 0
IfRun P c = ByAnswer (outcome c).0 Unit (P c)

-- "Then one run of the whole list's total by demand 2's bounce, from the room as given, leaves the same surfel bits as they do (any NaN matching any NaN), makes as many bounces as
-- they do together, and has the last change of the last of them that made a bounce, or 0 if none did. A refused solve leaves every surfel as it was". There is one NaN in Float.
pub record Continued (g : LitRoom) (cs : List Call) : Type 0 where
  -- the one run, by the definition
  pub by_definition : one_run g (limits cs) ≡ taken g cs
  -- the one run, by the entry: called with the room as given, in lists of its need or longer ones, and with the scratch of any run of the list
  pub by_entry : Each (IfRun (λ c. (h : LitRoom) → cut h ≡ g → Answers (whole h (limits cs) c.scratch) (taken g cs))) cs
  pub kept : Each (IfRefused Kept) cs
  pub past : Each (IfRun PastKept) cs

-- "Let a room with accepted rows be given, with any irr and rad, and any list of solves of it, refused ones included. .. their limits add up to at most 4,096". That the rows are
-- accepted is no premise: a run of the list shows it
abbrev pub Continuation : Type 0
Continuation = (g : LitRoom) (cs : List Call) → limits cs ≤ max_bounces → Chain g cs → Continued g cs
