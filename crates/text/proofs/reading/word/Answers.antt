-- `text::word` meets its contract. The digits read so far, followed by those that are left, spell what all eight spell. Assumes nothing.
use Prim.Native.Nat.{ℕ, ◌-◌, ◌≤◌}
use mathlib.Core.Path.{◌≡◌, sym, ◌∙◌}
use mathlib.Core.List.{List}
use native.Mathlib.Omega.{arith}
use lib.ListN.{length, take, drop, get_or, length-drop, drop_of_length-le}
use lib.Seq.{take_all}
use borrow.Author.Tests.{le-leb}
use Rattle.std.specs.List.{slice_range}
use Rattle.text.specs.Words.{spelled, word_at}
use Rattle.text.proofs.Laws.{word_from}
use Rattle.text.proofs.Words.{digit_below, room, digit_read, none_read}
use Rattle.text.proofs.reading.word.Goals as goal

-- what eight bytes at the start of the text from a place on spell
sliced : (s from : List ℕ) (at : ℕ) → from ≡ slice_range s at (length s) → 8 ≤ length from → spelled 0 (take 8 from) ≡ word_at s at
sliced s from at e h =
    let f : from ≡ drop at s = e ∙ take_all (length s - at) (drop at s) (simp length-drop (omega arith)) in
    rw (word_from s at, ← f, le-leb 8 (length from) h)

pub loop-b-init : goal.loop-b-init
loop-b-init c =
    let g = c.in_ok-get.ensures.lookup.0 in
    let h = c.in_ok-b-items.ensures.lookup.0 in
    (omega (arith, h.3), omega arith, rw h.2 (sliced c.args.s.now c.in_ok-get.field-0.now c.args.at g.2 h.1))

pub overflow_mul-n : goal.overflow_mul-n
overflow_mul-n c =
    let l = c.loop-b.invariant.0 in
    record { fits = omega (arith, room c.loop-b.n 0 c.loop-b.b-index c.loop-b.invariant.1 (omega arith) (omega arith)) }

pub overflow_add-n : goal.overflow_add-n
overflow_add-n c =
    let d = digit_below (get_or c.in_ok-b-items.b-items.now c.loop-b.b-index 0) c.in_ok-n.field-0 (sym c.in_ok-n.ensures) in
    record { fits = (room c.loop-b.n c.in_ok-n.field-0 c.loop-b.b-index c.loop-b.invariant.1 d (omega arith)).1 }

pub returns-in_err-n : goal.returns-in_err-n
returns-in_err-n c =
    c.from_residual-in_err-n.ensures ∙ none_read c.in_ok-b-items.b-items.now c.loop-b.b-index c.loop-b.n _ (omega arith) c.loop-b.invariant c.in_err-n.ensures

pub loop-b-preserved : goal.loop-b-preserved
loop-b-preserved c =
    digit_read c.in_ok-b-items.b-items.now c.loop-b.b-index c.loop-b.n _ (omega arith) c.loop-b.invariant c.in_ok-n.field-0 c.in_ok-n.ensures

pub returns : goal.returns
unfolding spelled
returns c =
    let e : c.loop-b.b-index ≡ 8 = omega arith in
    rw (e, drop_of_length-le c.in_ok-b-items.b-items.now {i = 8} (omega arith)) at c.loop-b.invariant.2
