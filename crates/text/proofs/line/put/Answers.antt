-- `text::put` meets its contract. The bytes that are copied are those that fit, and the stores past the end are none. Assumes nothing.
use mathlib.Core.Path.{◌≡◌, refl, sym, ◌∙◌}
use Prim.Native.Nat.{◌+◌, ◌-◌}
use native.Mathlib.Omega.{arith}
use lib.ListN.{length, take, length-take}
use lib.Seq.{sets-eq, take-length}
use Rattle.std.proofs.lemmas.Slice.{put_mid-paste}
use Rattle.text.proofs.Stores.{sets_out, sets_cut}
use Rattle.text.proofs.line.put.Goals as goal

pub returns-then-at-out : goal.returns-then-at-out
returns-then-at-out c =
    let out = c.args.out.now in
    let n = c.min-n.result in
    let part = take n c.args.s.now in
    let l : length part ≡ n = simp length-take (omega (arith, c.min-n.ensures)) in
    put_mid-paste c.args.at (c.args.at + n - c.args.at) out c.copy_from_slice.new.self part (length part) c.copy_from_slice.ensures.after (omega arith) refl
    ∙ rw take-length (sym (sets-eq part out c.args.at (omega (arith, c.min-n.ensures))))
    ∙ sets_cut out c.args.at n c.args.s.now (λ h. omega (arith, c.min-n.ensures))

pub returns-else-at-out : goal.returns-else-at-out
returns-else-at-out c =
    sym (sets_out c.args.out.now c.args.at c.args.s.now c.if-at-out.false)
