-- `replay::line::LinesIterator::next` meets its contract. Assumes nothing.
use Rattle.std.proofs.Common.{rules, sym, ◌∙◌}
use Rattle.replay.proofs.Cut.{within, first_of, no_line}
use Rattle.replay.proofs.line.LinesIterator.next.Goals as goal

pub returns-then-is_empty-clause-steps : goal.returns-then-is_empty-clause-steps
returns-then-is_empty-clause-steps c =
    let e = no_line c.args.self.now.0.now (sym c.is_empty.ensures ∙ c.if-is_empty.true) in (e, e)

pub split_at-requires : goal.split_at-requires
split_at-requires c = rw c.line_length.ensures (within c.args.self.now.0.now)

pub returns-clause-steps : goal.returns-clause-steps
returns-clause-steps c =
    rw (c.split_at.ensures.front, c.split_at.ensures.back, c.line_length.ensures)
    (first_of c.args.self.now.0.now (sym c.is_empty.ensures ∙ c.if-is_empty.false))

pub returns-clause-goes : goal.returns-clause-goes
returns-clause-goes c =
    let e = returns-clause-steps c in search rules
