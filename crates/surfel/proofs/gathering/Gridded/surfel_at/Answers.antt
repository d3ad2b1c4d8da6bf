-- `surfel::gathering::Gridded::surfel_at` meets its contract. Chunk i of a column is its vector i. Assumes nothing.
use mathlib.Core.Path.{◌≡◌, sym, subst}
use Prim.Native.Nat.{ℕ}
use Rattle.surfel.specs.Gathering.{Gridded}
use Rattle.surfel.specs.Needs.{Named}
use Rattle.vector.proofs.Cut.{cut_below, cut_at}
use Rattle.surfel.proofs.gathering.Gridded.surfel_at.Goals as goal

-- the columns of t have a vector number i
named : {s t : Gridded} (i : ℕ) → s ≡ t → Named t.surfels i → Named s.surfels i
named i e h =
    let P : Gridded → Type 0 = λ t. Named t.surfels i in
    subst P (sym e) h

pub bounds-self-inside-place : goal.bounds-self-inside-place
bounds-self-inside-place c =
    rw c.wide-place.ensures (cut_below c.self.inside.surfels.now.p c.self.invariant.p_cut c.args.i (named c.args.i c.self.view_is c.requires).p_in)

pub bounds-self-inside-place-2 : goal.bounds-self-inside-place-2
bounds-self-inside-place-2 c =
    rw c.wide-place.ensures (cut_below c.self.inside.surfels.now.normals c.self.invariant.normals_cut c.args.i (named c.args.i c.self.view_is c.requires).normals_in)

pub bounds-self-inside-place-3 : goal.bounds-self-inside-place-3
bounds-self-inside-place-3 c =
    rw c.wide-place.ensures (cut_below c.self.inside.surfels.now.irr c.self.invariant.irr_cut c.args.i (named c.args.i c.self.view_is c.requires).irr_in)

pub returns : goal.returns
returns c =
    let i = c.args.i in
    let h = named i c.self.view_is c.requires in
    let s = c.self.inside.surfels.now in
    let v = c.self.invariant in
    rw (← c.self.view_is, cut_at s.p v.p_cut i h.p_in _ (rw c.wide-place.ensures at c.from.ensures), cut_at s.normals v.normals_cut i h.normals_in _ (rw c.wide-place.ensures at c.from-2.ensures), cut_at s.irr v.irr_cut i h.irr_in _ (rw c.wide-place.ensures at c.from-3.ensures))
