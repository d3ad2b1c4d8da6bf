-- `file::floats::read_floats` meets its contract. The floats of a column that the slice holds stand in its front. Assumes nothing.
use mathlib.Core.Path.{sym, ◌∙◌}
use Prim.Native.Nat.{◌≤◌}
use native.Mathlib.Omega.{arith}
use borrow.Author.Tests.{le-leb}
use lib.ListN.{length}
use Rattle.file.specs.Columns.{floats_of}
use Rattle.file.proofs.Entries.{floats_length, floats_put}
use Rattle.file.proofs.floats.read_floats.Goals as goal

pub store_floats-requires-clause-count_in_bounds : goal.store_floats-requires-clause-count_in_bounds
store_floats-requires-clause-count_in_bounds c =
    let l = c.in-Some.list in
    omega (arith, floats_length l.bytes.now l.place, c.count.ensures, c.if-count-out.true)

pub returns-then-count-out : goal.returns-then-count-out
returns-then-count-out c =
    let l = c.in-Some.list in
    let out = c.args.out.now in
    let h : length (floats_of l.bytes.now l.place) ≤ length out = omega (arith, c.count.ensures, c.if-count-out.true) in
    rw (c.in-Some.is, le-leb (length (floats_of l.bytes.now l.place)) (length out) h) (c.store_floats.ensures ∙ sym (floats_put l.bytes.now l.place out))
