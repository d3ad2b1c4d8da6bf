-- `surfel::gathering::Gridded::read` meets its contract. What is visited are the numbers of the rows, and they name surfels. Assumes nothing.
use mathlib.Core.Path.{refl}
use Rattle.std.specs.List.{concat}
use Rattle.grid.proofs.Nearby.{visited_rows}
use Rattle.surfel.specs.Gathering.{gather}
use Rattle.surfel.specs.Needs.{Named}
use Rattle.surfel.proofs.Acceptance.{visited_named}
use Rattle.surfel.proofs.Summed.{weigh_row, all_split}
use Rattle.surfel.proofs.gathering.Gridded.read.Goals as goal

pub loop-row-init : goal.loop-row-init
loop-row-init c =
    let a = c.args in
    let t = c.self.inside in
    let h = c.self.invariant.held in
    let v = visited_rows t.grid a.at 1 h.fits in
    rw (← c.self.view_is, c.into_iter-row-iterator.ensures.into_iter_gives, c.rows_near-row-items.ensures, c.nothing-sum.ensures, ← v)
    (refl, visited_named t.grid t.surfels.now a.at 1 h)

pub weigh_row-sum-requires : goal.weigh_row-sum-requires
weigh_row-sum-requires c =
    let v = rw c.in-Some.ensures.steps at c.loop-row.invariant in
    (all_split (Named c.args.self.now.surfels) c.in-Some.row.now (concat c.next.new.self) v.1).0

pub loop-row-preserved : goal.loop-row-preserved
loop-row-preserved c =
    let v = rw c.in-Some.ensures.steps at c.loop-row.invariant in
    let s = c.args.self.now.surfels in
    let row = c.in-Some.row.now in
    let rest = concat c.next.new.self in (
      weigh_row s _ row rest c.loop-row.sum v.0 c.weigh_row-sum.ensures,
      (all_split (Named s) row rest v.1).1,
    )

pub returns : goal.returns
unfolding gather
returns c =
    let v = rw c.in-None.ensures.steps.0 at c.loop-row.invariant in
    rw (c.reading.ensures, v.0)
