-- What a call through the C interface leaves, from what its entry answered and left, and what was told of the answer. Assumes nothing.
use mathlib.Core.List.{List}
use mathlib.Core.Path.{◌≡◌}
use Prim.Native.Nat.{ℕ}
use lib.Ieee.{Float}
use Rattle.std.specs.Prelude.{Result}
use Rattle.accept.specs.declared.refusal.Refusal.{Refusal}
use Rattle.room.specs.declared.Head.{Head}
use Rattle.room.specs.Answers.{room_read_answer}
use Rattle.room.specs.Lent.{Columns}
use Rattle.outs.specs.Reading.{read_left}
use Rattle.interflect.specs.Reading.{interflect_room_read}

module _ {A O : Type 0} (left : A → O → ℕ × O) {a : A} {held o : O} {r : ℕ} (t : (r, o) ≡ left a held) where
  -- the entry leaves nothing beside its answer
  pub told : {all : A} → a ≡ all → (r, o) ≡ left all held
  told e = rw (← e, t)

  -- the entry leaves one thing beside its answer
  pub told_with : {X : Type 0} {x : X} {all : A × X} → (a, x) ≡ all
      → ◌≡◌ {A = ℕ × O × X} (r, o, x) ((left all.0 held).0, (left all.0 held).1, all.1)
  told_with e = rw (← e, ← t)

  -- two things
  pub told_with_two : {X Y : Type 0} {x : X} {y : Y} {all : A × X × Y} → (a, x, y) ≡ all
      → ◌≡◌ {A = ℕ × O × X × Y} (r, o, x, y) ((left all.0 held).0, (left all.0 held).1, all.1, all.2)
  told_with_two e = rw (← e, ← t)

  -- three
  pub told_with_three : {X Y Z : Type 0} {x : X} {y : Y} {z : Z} {all : A × X × Y × Z} → (a, x, y, z) ≡ all
      → ◌≡◌ {A = ℕ × O × X × Y × Z} (r, o, x, y, z) ((left all.0 held).0, (left all.0 held).1, all.1, all.2, all.3)
  told_with_three e = rw (← e, ← t)

-- a file that is read: two things are told, and its columns left
module _ (b : List ℕ) (counts : List ℕ) (sizes : List Float) (l k : Columns) {answer : Result Head Refusal} (e : (answer, k) ≡ room_read_answer b l) where
  pub told_read : {r : ℕ} {c : List ℕ} {s : List Float} → (r, c, s) ≡ read_left answer counts sizes → (r, c, s, k) ≡ interflect_room_read b counts sizes l
  told_read t = rw (← e, ← t)
