-- `file::floats::store_floats` meets its contract. The loop has stored the first i entries. Assumes nothing.
use mathlib.Core.Path.{◌≡◌, refl}
use native.Mathlib.Omega.{arith}
use borrow.Author.Rules.{rules}
use Rattle.file.proofs.Entries.{next_entry, floats_none, floats_more}
use Rattle.file.proofs.floats.store_floats.Goals as goal

pub loop-i-init : goal.loop-i-init
loop-i-init c =
    let a = c.args in
    (search rules, floats_none a.bytes.now a.col a.out.now, refl)

pub overflow_mul-col : goal.overflow_mul-col
overflow_mul-col c =
    let p = c.requires.inside in
    omega (arith, p.few, p.each c.loop-i.i c.loop-i-test.true)

pub overflow_add-col : goal.overflow_add-col
overflow_add-col c =
    let p = c.requires.inside in
    omega (arith, p.few, p.each c.loop-i.i c.loop-i-test.true)

pub overflow_mul-col-in-loop-i : goal.overflow_mul-col-in-loop-i
overflow_mul-col-in-loop-i c =
    let col = c.args.col in
    let h = next_entry col.width c.loop-i.i col.count c.loop-i-test.true in
    omega (arith, c.requires.count_in_bounds)

pub store_entry-requires : goal.store_entry-requires
store_entry-requires c =
    let col = c.args.col in
    let t = c.loop-i-test.true in
    let h = next_entry col.width c.loop-i.i col.count t in
    record { width_bound = c.requires.inside.each c.loop-i.i t; width_in_bounds = omega (arith, c.requires.count_in_bounds, c.loop-i.invariant.2) }

pub loop-i-preserved : goal.loop-i-preserved
loop-i-preserved c =
    let col = c.args.col in
    let h = next_entry col.width c.loop-i.i col.count c.loop-i-test.true in (
      search rules,
      floats_more c.args.bytes.now col c.loop-i.i c.args.out.now c.loop-i.invariant.1 (omega (arith, c.requires.count_in_bounds)) c.store_entry.ensures,
      omega arith,
    )

pub shape_of-out : goal.shape_of-out
shape_of-out c =
    c.loop-i.invariant.2

pub returns : goal.returns
returns c =
    let e : c.loop-i.i ≡ c.args.col.count = omega arith in
    rw e at c.loop-i.invariant.1
