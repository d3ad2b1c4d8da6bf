-- What `near` answers in each of its cases: that the list holds the numbers is tested after all else. Assumes nothing.
use mathlib.Core.Bool.{Bool, true, and-eq-true_iff}
use mathlib.Core.List.{List, [], ◌∷◌, ◌++◌}
use mathlib.Core.Path.{◌≡◌}
use Prim.Native.Nat.{ℕ, ◌≤◌, ◌<◌}
use borrow.Author.Tests.{le-leb, lt-leb}
use lib.Dec.{leb}
use lib.ListN.{length}
use lib.Seq.{sets}
use Rattle.std.specs.Prelude.{Ok, Err, Result}
use Rattle.vector.specs.declared.Vec3.{Vec3}
use Rattle.accept.specs.Limits.{max_surfels}
use Rattle.accept.specs.Tables.{at_most}
use Rattle.accept.proofs.Bounded.{at_most-le}
use Rattle.accept.specs.Refusal.{checked}
use Rattle.accept.specs.declared.refusal.Refusal.{Refusal}
use Rattle.accept.specs.declared.refusal.Refusal.TheVariants.{Length}
use Rattle.accept.proofs.Refused.{checked_past, checked_before}
use Rattle.grid.specs.Answers.{near_own, near_answer}
use Rattle.grid.specs.Lent.{Grid}
use Rattle.grid.specs.Visiting.{visited}
use Rattle.grid.specs.Checks.{list_fits, tests, check}
use Rattle.grid.specs.Rows.{block_near, block_listed, RowsHeld, Small}
use Rattle.grid.proofs.Nearby.{accepted, rows_held, small, visited_block}

module _ (g : Grid) (p : Vec3) (reach : ℕ) (list : List ℕ) where
  abbrev outcome : Result Unit Refusal
  outcome = check g (near_own p reach)

  -- the tests before that of the list, and that of the list
  abbrev before : List (Refusal × Bool)
  before = tests g (near_own p reach)

  abbrev last : List (Refusal × Bool)
  last = (Length, leb (length (visited g p reach)) (length list)) ∷ []

  past : outcome ≡ Ok tt → checked (before ++ last) ≡ checked last
  past e = checked_past before last (accepted g (near_own p reach) e)

  pub near_refused : {refusal : Refusal} → outcome ≡ Err refusal → (Err refusal, list) ≡ near_answer g p reach list
  unfolding near_answer check
  near_refused {refusal} e = rw (checked_before before last refusal e)

  pub near_short : outcome ≡ Ok tt → length list < length (visited g p reach) → (Err Length, list) ≡ near_answer g p reach list
  unfolding near_answer checked
  near_short e h = rw (past e, lt-leb (length (visited g p reach)) (length list) h)

  pub near_done : outcome ≡ Ok tt → length (visited g p reach) ≤ length list
      → (Ok (length (visited g p reach)), sets list 0 (visited g p reach)) ≡ near_answer g p reach list
  unfolding near_answer checked
  near_done e h = rw (past e, le-leb (length (visited g p reach)) (length list) h)

  -- the starts and the items of a call that is not refused fit together
  pub near_fits : outcome ≡ Ok tt → list_fits g ≡ true
  near_fits e = (accepted g (near_own p reach) e).1.1.1.1.0

  -- so that it can go over the block, whose numbers are those visited
  pub near_walked : outcome ≡ Ok tt
      → RowsHeld g.starts g.items g.n (block_near g.lo g.hi g.side p reach)
      × Small g.n (block_near g.lo g.hi g.side p reach)
      × (visited g p reach ≡ block_listed g.starts g.items (block_near g.lo g.hi g.side p reach))
  near_walked e =
      let few = at_most-le g.n max_surfels ((and-eq-true_iff (at_most g.n max_surfels) true).0 (accepted g (near_own p reach) e).0).0 in
      (rows_held g p reach (near_fits e), small g p reach (near_fits e) few, visited_block g p reach (near_fits e))

-- the same of a grid that is that one
pub near_walked_at : (l g : Grid) (p : Vec3) (reach : ℕ) (list : List ℕ) → l ≡ g → check g (near_own p reach) ≡ Ok tt
    → RowsHeld l.starts l.items l.n (block_near l.lo l.hi l.side p reach)
    × Small l.n (block_near l.lo l.hi l.side p reach)
    × (visited l p reach ≡ block_listed l.starts l.items (block_near l.lo l.hi l.side p reach))
near_walked_at l g p reach list e h = near_walked l p reach list (rw e h)
