-- `placement::entries::generate` meets its contract. A call that is not refused was lent what `place` and `store` ask. Assumes nothing.
use mathlib.Core.Path.{sym}
use lib.ListN.{length}
use Rattle.std.proofs.lemmas.Result.{err_from_is_err_and}
use Rattle.placement.specs.Lent.{columns_of}
use Rattle.placement.proofs.Answered.{accepted, answer_refused, open_done, need_is, held, roomy_left, answer_stored}
use Rattle.placement.proofs.entries.generate.Goals as goal

pub returns-in_err-check-clause-rad_value : goal.returns-in_err-check-clause-rad_value
returns-in_err-check-clause-rad_value c =
    let a = c.args in
    let l = columns_of a.p.now a.n.now a.albedo.now a.area.now a.direct.now a.irr.now a.rad.now in
    let p = err_from_is_err_and c.from_residual.result c.from_residual.ensures.1 in
    rw (p.1, p.2) (answer_refused a.request.now l (length a.head.now) (length a.next.now) (sym c.in_err-check.ensures))

pub spacing-s-requires : goal.spacing-s-requires
spacing-s-requires c =
    let a = c.args in
    let l = columns_of a.p.now a.n.now a.albedo.now a.area.now a.direct.now a.irr.now a.rad.now in
    (accepted a.request.now l (length a.head.now) (length a.next.now) (sym c.in_ok-check.ensures)).few

pub place-count-requires : goal.place-count-requires
place-count-requires c =
    let a = c.args in
    let l = columns_of a.p.now a.n.now a.albedo.now a.area.now a.direct.now a.irr.now a.rad.now in
    held a.request.now l c.spacing-s.ensures a.head.now a.next.now (sym c.in_ok-check.ensures)

pub store-requires : goal.store-requires
store-requires c =
    let a = c.args in
    let l = columns_of a.p.now a.n.now a.albedo.now a.area.now a.direct.now a.irr.now a.rad.now in
    roomy_left a.request.now l c.spacing-s.ensures c.place-count.ensures.p_after (accepted a.request.now l (length a.head.now) (length a.next.now) (sym c.in_ok-check.ensures)).roomy

pub returns-clause-rad_value : goal.returns-clause-rad_value
returns-clause-rad_value c =
    let a = c.args in
    let l = columns_of a.p.now a.n.now a.albedo.now a.area.now a.direct.now a.irr.now a.rad.now in
    answer_stored a.request.now l c.spacing-s.ensures c.place-count.ensures.p_after (length a.head.now) (length a.next.now) (sym c.in_ok-check.ensures) c.store.ensures

pub returns-clause-kept_from : goal.returns-clause-kept_from
returns-clause-kept_from c =
    let a = c.args in
    let l = columns_of a.p.now a.n.now a.albedo.now a.area.now a.direct.now a.irr.now a.rad.now in
    rw ((open_done a.request.now l (length a.head.now) (length a.next.now) (sym c.in_ok-check.ensures)).0, ← need_is a.request.now l c.spacing-s.ensures) c.place-count.ensures.kept_from

pub returns-clause-kept_from_2 : goal.returns-clause-kept_from_2
returns-clause-kept_from_2 c =
    let a = c.args in
    let l = columns_of a.p.now a.n.now a.albedo.now a.area.now a.direct.now a.irr.now a.rad.now in
    rw (open_done a.request.now l (length a.head.now) (length a.next.now) (sym c.in_ok-check.ensures)).1 c.place-count.ensures.kept_from_2
