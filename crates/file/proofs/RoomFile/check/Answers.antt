-- `file::RoomFile::check` meets its contract. A file that passed the first two tests ends where its counts say. Assumes nothing.
use mathlib.Core.Path.{sym, ap, ◌∙◌}
use Rattle.accept.proofs.Refused.{require_passed}
use Rattle.file.specs.Blocks.{counts_in}
use Rattle.file.specs.Checks.{few_enough}
use Rattle.file.specs.Needs.{Ends}
use Rattle.file.proofs.Accepted.{checked_ends}
use Rattle.file.proofs.RoomFile.check.Goals as goal
use Rattle.file.proofs.RoomFile.check.Goals.{In_ok-require-2}

ends : (c : In_ok-require-2) → Ends c.args.self.now (counts_in c.args.self.now)
ends c =
    checked_ends c.args.self.now c.args.most (sym c.formed.ensures ∙ require_passed _ _ c.in_ok-require.ensures)
    (ap (λ b. few_enough (counts_in b)) (sym c.self.view_is)
    ∙ ap few_enough (sym c.self.invariant)
    ∙ sym c.few_enough.ensures
    ∙ require_passed _ _ c.in_ok-require-2.ensures)

pub floats_pass-requires : goal.floats_pass-requires
floats_pass-requires c = ends (goal.at.floats_pass-requires c).In_ok-require-2

pub numbers_pass-requires : goal.numbers_pass-requires
numbers_pass-requires c = ends (goal.at.numbers_pass-requires c).In_ok-require-2
