-- A number of a column is the first word of its entry, which lies in the file; past the last there is none. Assumes nothing.
use mathlib.Core.Path.{sym, ap, ◌∙◌}
use native.Mathlib.Omega.{arith}
use Rattle.std.specs.Prelude.{Some}
use Rattle.std.proofs.lemmas.Option.{slice_get-get_or, slice_get_past}
use Rattle.file.specs.Columns.{numbers_of}
use Rattle.file.proofs.Entries.{numbers_length, number_at_lem}
use Rattle.file.proofs.lying.LyingListedU32.item.Goals as goal

pub word-requires : goal.word-requires
word-requires c =
    let s = c.args.self in
    omega (arith, s.inside.some, s.inside.each c.args.k c.if-k-self.true)

pub returns-then-k-self : goal.returns-then-k-self
returns-then-k-self c =
    let s = c.args.self in
    let b = s.bytes.now in
    ap Some (c.word.ensures ∙ sym (number_at_lem b s.place c.args.k c.if-k-self.true))
    ∙ sym (slice_get-get_or (numbers_of b s.place) c.args.k 0 (omega (arith, c.if-k-self.true, numbers_length b s.place)))

pub returns-else-k-self : goal.returns-else-k-self
returns-else-k-self c =
    let s = c.args.self in
    let b = s.bytes.now in
    sym (slice_get_past (numbers_of b s.place) c.args.k (omega (arith, c.if-k-self.false, numbers_length b s.place)))
