-- `file::floats::store_entry` meets its contract. The loop has stored the first j floats. Assumes nothing.
use mathlib.Core.Path.{◌≡◌, refl}
use Prim.Native.Nat.{◌+◌}
use native.Mathlib.Omega.{arith}
use lib.ListN.{length-set}
use borrow.Author.Rules.{rules}
use Rattle.vector.specs.Flat.{rows}
use Rattle.file.specs.Words.{float_in}
use Rattle.file.proofs.Entries.{single_stored}
use Rattle.file.proofs.floats.store_entry.Goals as goal

pub loop-j-init : goal.loop-j-init
unfolding rows
loop-j-init c =
    (search rules, refl, refl)

pub bounds-out-to : goal.bounds-out-to
bounds-out-to c =
    omega (arith, c.requires)

pub loop-j-preserved : goal.loop-j-preserved
loop-j-preserved c =
    let a = c.args in (
      search rules,
      single_stored (λ i. float_in a.bytes.now (a.k + i)) c.loop-j.j a.to a.out.now c.loop-j.invariant.1 (rw (c.of_bits.ensures, c.word.ensures)) refl,
      simp length-set c.loop-j.invariant.2,
    )

pub shape_of-out : goal.shape_of-out
shape_of-out c =
    c.loop-j.invariant.2

pub returns : goal.returns
returns c =
    let e : c.loop-j.j ≡ c.args.width = omega arith in
    rw e at c.loop-j.invariant.1
