-- `file::lying::store` meets its contract. The loop has stored the first k items, and ends where there is none left. Assumes nothing.
use mathlib.Core.List.{List, ◌++◌}
use mathlib.Core.Path.{◌≡◌, sym, ap, subst, ◌∙◌}
use Prim.Native.Nat.{ℕ, ◌+◌, ◌<◌, ◌≤◌}
use native.Mathlib.Nat.{zero-add}
use native.Mathlib.Omega.{arith}
use lib.ListN.{length, set, drop}
use lib.Seq.{paste}
use borrow.Author.Tests.{le-leb}
use Rattle.std.proofs.Common.{inl, inr}
use Rattle.std.specs.Prelude.{None, Some}
use Rattle.std.specs.List.{slice_get}
use Rattle.std.proofs.lemmas.List.{set-get_or}
use Rattle.std.proofs.lemmas.List.Edits.{paste_none, paste_more, paste_all}
use Rattle.std.proofs.lemmas.Option.{slice_get_within, slice_get_cases, get_or_from_slice_get}
use Rattle.file.specs.Needs.{put_front}
use Rattle.file.proofs.lying.store.Goals as goal

-- a place where nothing stands is past the end
past : {X : Type 0} (xs : List X) (k : ℕ) → slice_get xs k ≡ None → length xs ≤ k
past {X} xs k e = elim (slice_get_cases xs k).1 [ inl p ↦ absurd (cc (p.2, e)) | inr p ↦ p.0 ]

-- all items stored, from the front, into a list that holds them
stored : {X : Type 0} (out items : List X) (k : ℕ) → length items ≤ length out → k ≡ length items → paste out 0 items k ≡ put_front (Some items) out
stored out items k h e =
    rw (le-leb (length items) (length out) h) (paste_all out 0 items k e ∙ ap (λ i. items ++ drop i out) (zero-add k ∙ e))

-- one item more
more : {X : Type 0} (out items : List X) (k : ℕ) (x : X) → k < length out → slice_get items k ≡ Some x
    → (k + 1 ≤ length items) × (set (paste out 0 items k) k x ≡ paste out 0 items (k + 1))
more out items k x h e =
    let l = slice_get_within items k x e in
    let at = paste_more out 0 items k x (omega (arith, h)) l in
    (omega (arith, l), subst (λ i. set (paste out 0 items k) i x ≡ paste out 0 items (k + 1)) (zero-add k) (rw (get_or_from_slice_get items k x x e) at at))

pub loop-k-init : goal.loop-k-init
loop-k-init g c =
    (omega arith, paste_none c.args.out.now 0 (g.L.Listed.items c.in-Some.list))

pub loop-k-preserved : goal.loop-k-preserved
loop-k-preserved g c =
    rw c.loop-k.invariant.1
    (more c.args.out.now (g.L.Listed.items c.in-Some.list) c.loop-k.k c.in-Some-item.x c.loop-k-test.true (sym c.item.ensures ∙ c.in-Some-item.is))

pub returns : goal.returns
returns g c =
    let items = g.L.Listed.items c.in-Some.list in
    let h : length items ≤ length c.args.out.now = omega (arith, c.count.ensures, c.if-out-count.false) in
    rw c.in-Some.is (c.loop-k.invariant.1 ∙ stored c.args.out.now items c.loop-k.k h (omega (arith, c.loop-k-test.false)))

pub returns-in_default-item : goal.returns-in_default-item
returns-in_default-item g c =
    let items = g.L.Listed.items c.in-Some.list in
    let h : length items ≤ length c.args.out.now = omega (arith, c.count.ensures, c.if-out-count.false) in
    let p = past items c.loop-k.k (sym c.item.ensures ∙ c.in_default-item.is) in
    rw c.in-Some.is (set-get_or c.loop-k.out c.loop-k.k c.index-out-k.result ∙ c.loop-k.invariant.1 ∙ stored c.args.out.now items c.loop-k.k h (omega arith))
