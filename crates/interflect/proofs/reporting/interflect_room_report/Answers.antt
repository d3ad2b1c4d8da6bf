-- `interflect::reporting::interflect_room_report` meets its contract. It tells what the entry answers, and each slice keeps its length. Assumes nothing.
use Rattle.outs.specs.Outs.{left}
use Rattle.interflect.proofs.Told.{told_with}
use Rattle.interflect.proofs.reporting.interflect_room_report.Goals as goal

pub returns : goal.returns
returns c =
    told_with left c.tell_count.ensures c.room_report-answer.ensures
