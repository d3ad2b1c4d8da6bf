-- What `solve` ensures of a call, as generated from src/entries.rt, is what the continuation law says of the call. Assumes nothing.
use mathlib.Core.List.{List}
use mathlib.Core.Path.{◌≡◌, refl, sym, ap}
use Prim.Native.Nat.{ℕ}
use borrow.Fn.World.{ArgsD}
use contract.Lifetimes.{Lfts}
use denote.Bor.{Bor}
use denote.MutBor.{at_last}
use denote.Triple.Clauses.{Lasts, AtExit, at_exit}
use lib.Ieee.{Float}
use Rattle.std.specs.Prelude.{Result}
use Rattle.vector.specs.Flat.{Moments, MutSlice}
use Rattle.accept.specs.declared.refusal.Refusal.{Refusal}
use Rattle.solve.specs.declared.SolveStats.{SolveStats}
use Rattle.transfer.specs.Room.{Room, light_in, light_out}
use Rattle.solve.specs.Calls.{with_light, Call, outcome, left}
use Rattle.solve.specs.contracts.entries.solve
use Rattle.solve.proofs.entries.solve.Reads as reads

-- parameters in order
infixr 20 ◌&◌
abbrev ◌&◌ : {A B : Type 0} → A → B → A × B
a & b = (a, b)

module _ (κs : Lfts 5) (room : Moments (Bor Room)) (limit : ℕ) (irr rad scratch : MutSlice Float) where
  -- the arguments of a call of `solve`
  abbrev pub args : ArgsD solve.signature κs
  args = room.entry & limit & irr.entry & rad.entry & scratch.entry & tt

  -- its parameters as it leaves them
  abbrev pub ends : AtExit solve.ended κs
  ends = room.exit & limit & irr.exit & rad.exit & scratch.exit & tt

  -- the lists that irr, rad and scratch end with, which are all that a call can write
  abbrev pub finals : List Float → List Float → List Float → Lasts solve.ended κs args
  finals x y z = tt & tt & x & y & z & tt

  -- whatever these are, each other parameter is at exit as it was passed
  pub others_kept : (x y z : List Float) → at_exit solve.ended κs args (finals x y z)
      ≡ (room.entry & limit & at_last irr.entry x & at_last rad.entry y & at_last scratch.entry z & tt)
  others_kept x y z = refl

  -- the same call as the law speaks of it, with any points and normals
  abbrev pub call : List Float → List Float → Call
  call p normals =
      record {
        handed = record { p = p; normals = normals; room = room.entry.now; light = light_in irr rad };
        limit = limit;
        scratch = scratch.entry.now;
      }

  -- what the proof of `solve` shows: the result, the light left and the scratch left are the call's outcome
  pub shown : (r : Result SolveStats Refusal) (p normals : List Float) → reads.Post κs args r ends → (r, light_out irr rad, scratch.exit.now) ≡ outcome (call p normals)
  shown r p normals h = h

  -- what a caller of `solve` learns: the same
  pub learnt : (r : Result SolveStats Refusal) (p normals : List Float) → reads.Learnt κs args r ends → (r, light_out irr rad, scratch.exit.now) ≡ outcome (call p normals)
  learnt r p normals h = h

  -- the room as the call leaves it is the room as lent with the light that irr and rad hold at exit
  pub room_left : (r : Result SolveStats Refusal) (p normals : List Float) → reads.Learnt κs args r ends → left (call p normals) ≡ with_light (call p normals).handed (light_out irr rad)
  room_left r p normals h = ap (λ l. with_light (call p normals).handed l) (sym (ap (λ o. o.1) (learnt r p normals h)))
