-- Float k of a column is one of those of its entry, which lies in the file; past the last there is none. Assumes nothing.
use mathlib.Core.List.{List}
use mathlib.Core.Path.{sym, ap, ◌∙◌}
use Prim.Native.Nat.{ℕ, ◌+◌, ◌*◌, ◌/◌, ◌%◌, ◌<◌}
use native.Mathlib.Nat.{mod-lt, div-add-mod, div-lt_iff_lt-mul, mul_comm}
use native.Mathlib.Omega.{arith}
use lib.Ieee.{nan}
use Rattle.std.specs.Prelude.{Some}
use Rattle.std.proofs.lemmas.Option.{slice_get-get_or, slice_get_past}
use Rattle.float.specs.Column.{float_at}
use Rattle.file.specs.declared.Column.{Column}
use Rattle.file.specs.Words.{words}
use Rattle.file.specs.Columns.{floats_of}
use Rattle.file.specs.Needs.{Inside}
use Rattle.file.proofs.Entries.{floats_length, float_at_lem}
use Rattle.file.proofs.lying.LyingListedF32.item.Goals as goal

-- the entry, the place in it, and that the word lies in the file
lies : {b : List ℕ} (col : Column) (k : ℕ) → Inside b col → k < col.width * col.count
    → (k / col.width < col.count) × (k % col.width < col.width) × (col.from + col.step * (k / col.width) + k % col.width < words b)
lies col k inside h =
    let m : k % col.width < col.width = mod-lt k inside.some in
    let e : k / col.width < col.count = (div-lt_iff_lt-mul {k = col.width} {x = k} {y = col.count} inside.some).1 (omega (arith, h, mul_comm col.width col.count)) in
    (e, m, omega (arith, m, inside.each (k / col.width) e))

pub word-requires : goal.word-requires
word-requires c = (lies c.args.self.place c.args.k c.args.self.inside c.if-k-width.true).2

pub returns-then-k-width : goal.returns-then-k-width
returns-then-k-width c =
    let s = c.args.self in
    let b = s.bytes.now in
    let k = c.args.k in
    let h = lies s.place k s.inside c.if-k-width.true in
    ap Some (rw (c.of_bits.ensures, c.word.ensures)
    (sym (float_at_lem b s.place (k / s.place.width) (k % s.place.width) h.0 h.1) ∙ ap (float_at (floats_of b s.place)) (div-add-mod k s.place.width)))
    ∙ sym (slice_get-get_or (floats_of b s.place) k nan (omega (arith, c.if-k-width.true, floats_length b s.place)))

pub returns-else-k-width : goal.returns-else-k-width
returns-else-k-width c =
    let s = c.args.self in
    let b = s.bytes.now in
    sym (slice_get_past (floats_of b s.place) c.args.k (omega (arith, c.if-k-width.false, floats_length b s.place)))
