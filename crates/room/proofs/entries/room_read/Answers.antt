-- `room::entries::room_read` meets its contract. A call that is not refused reads a file that is formed, into columns that hold each block. Assumes nothing.
use mathlib.Core.Path.{◌≡◌, sym, ◌∙◌}
use Rattle.std.proofs.lemmas.Result.{err_from_is_err_and}
use Rattle.accept.specs.Limits.{max_file}
use Rattle.file.specs.Blocks.{counts_in}
use Rattle.file.specs.Checks.{check}
use Rattle.room.specs.Answers.{columns_hold}
use Rattle.room.specs.Lent.{Columns, columns_of}
use Rattle.room.proofs.Filled.{answer_refused, answer_done}
use Rattle.room.proofs.entries.room_read.Goals as goal
use Rattle.room.proofs.entries.room_read.Goals.{After-check}

-- the columns as they were lent
abbrev lent : After-check → Columns
lent c =
    let a = c.args in
    columns_of a.p.now a.normals.now a.albedo.now a.area.now a.direct.now a.cluster_area.now a.first.now a.count.now a.member.now a.starts.now
    a.link_cluster.now a.link_weight.now a.probe_p.now a.probe_normals.now

-- what the check answers, by what was asked of it
checked : (c : After-check) → c.check.result ≡ check c.args.bytes.now max_file (columns_hold (counts_in c.args.bytes.now) (lent c))
checked c = rw (c.check.ensures, c.columns_hold-lent.ensures, c.counts.ensures, c.new-file.ensures)

pub returns-in_err-check : goal.returns-in_err-check
returns-in_err-check c =
    let p = err_from_is_err_and c.from_residual.result c.from_residual.ensures.1 in
    let at = (goal.at.returns-in_err-check c).After-check in
    rw (p.1, p.2) (answer_refused c.args.bytes.now (lent at) (sym c.in_err-check.was ∙ checked at))

pub returns : goal.returns
returns c =
    let a = c.args in
    let at = (goal.at.returns c).After-check in
    let p = c.read_points in
    let s = c.read_surfaces in
    let k = c.read_clusters in
    let r = c.read_rows in
    let q = c.read_probes in
    let left : Columns =
    columns_of p.new.p p.new.facing s.new.albedo s.new.area s.new.direct k.new.area k.new.first k.new.count k.new.member r.new.starts r.new.cluster r.new.weight
    q.new.p q.new.facing in
    rw (c.counts-2.ensures, c.probe_box.ensures, c.new-file.ensures)
    (answer_done a.bytes.now (lent at) left (sym c.in_ok-check.was ∙ checked at)
    (rw c.new-file.ensures at p.ensures.p_after, (rw c.new-file.ensures at p.ensures.facing_after, (rw c.new-file.ensures at s.ensures.albedo_after, (rw c.new-file.ensures at s.ensures.area_after, rw c.new-file.ensures at s.ensures.direct_after))))
    (rw c.new-file.ensures at k.ensures.area_after, (rw c.new-file.ensures at k.ensures.first_after, (rw c.new-file.ensures at k.ensures.count_after, rw c.new-file.ensures at k.ensures.member_after)))
    (rw c.new-file.ensures at r.ensures.starts_after, (rw c.new-file.ensures at r.ensures.cluster_after, rw c.new-file.ensures at r.ensures.weight_after))
    (rw c.new-file.ensures at q.ensures.p_after, rw c.new-file.ensures at q.ensures.facing_after))
