-- `placement::chaining::Kept::vacant` meets its contract. The search stands at a point of the cell, and what is left of its chain decides the answer. Assumes nothing.
use mathlib.Core.Path.{sym, ap, ◌∙◌}
use Prim.Native.Nat.{ℕ}
use mathlib.Core.Bool.{Bool}
use native.Mathlib.Omega.{arith}
use Rattle.vector.specs.Flat.{vec_at}
use Rattle.placement.specs.Kept.{closer}
use Rattle.placement.specs.Chains.{key_of}
use Rattle.placement.proofs.Chained.{search_begins, search_found, search_goes, search_ends}
use Rattle.placement.proofs.chaining.Kept.vacant.Goals as goal

pub loop-j-init : goal.loop-j-init
loop-j-init c =
    search_begins (key_of c.args.self.now.s (vec_at c.args.self.now.p.now)) (λ j. closer c.args.self.now.s c.args.at (vec_at c.args.self.now.p.now j)) c.args.c _ c.args.self.now.count c.args.self.now.chained.chained c.requires c.wide-link.ensures

pub returns-then-closer : goal.returns-then-closer
returns-then-closer c =
    let k : ℕ → ℕ = key_of c.args.self.now.s (vec_at c.args.self.now.p.now) in
    let t : ℕ → Bool = λ j. closer c.args.self.now.s c.args.at (vec_at c.args.self.now.p.now j) in
    let j = c.in-Some.ensures in
    let e = rw j.1 at (sym (c.closer.ensures ∙ ap (closer c.args.self.now.s c.args.at) c.at.ensures) ∙ c.if-closer.true) in
    sym (search_found k t c.args.c _ c.args.self.now.count c.args.self.now.chained.chained c.loop-j.invariant j.0 e)

pub loop-j-smaller : goal.loop-j-smaller
loop-j-smaller c =
    let k : ℕ → ℕ = key_of c.args.self.now.s (vec_at c.args.self.now.p.now) in
    let t : ℕ → Bool = λ j. closer c.args.self.now.s c.args.at (vec_at c.args.self.now.p.now j) in
    let j = c.in-Some.ensures in
    let e = rw j.1 at (sym (c.closer.ensures ∙ ap (closer c.args.self.now.s c.args.at) c.at.ensures) ∙ c.if-closer.false) in
    (search_goes k t c.args.c _ c.args.self.now.count c.args.self.now.chained.chained c.loop-j.invariant j.0 e (rw j.1 at c.wide-link-in-Some.ensures)).1

pub loop-j-preserved : goal.loop-j-preserved
loop-j-preserved c =
    let k : ℕ → ℕ = key_of c.args.self.now.s (vec_at c.args.self.now.p.now) in
    let t : ℕ → Bool = λ j. closer c.args.self.now.s c.args.at (vec_at c.args.self.now.p.now j) in
    let j = c.in-Some.ensures in
    let e = rw j.1 at (sym (c.closer.ensures ∙ ap (closer c.args.self.now.s c.args.at) c.at.ensures) ∙ c.if-closer.false) in
    (search_goes k t c.args.c _ c.args.self.now.count c.args.self.now.chained.chained c.loop-j.invariant j.0 e (rw j.1 at c.wide-link-in-Some.ensures)).0

pub returns : goal.returns
returns c =
    let k : ℕ → ℕ = key_of c.args.self.now.s (vec_at c.args.self.now.p.now) in
    let t : ℕ → Bool = λ j. closer c.args.self.now.s c.args.at (vec_at c.args.self.now.p.now j) in
    sym (search_ends k t c.args.c _ c.args.self.now.count c.args.self.now.chained.chained c.loop-j.invariant (omega (arith, c.in_default.ensures)))
