-- `interflect::reading::interflect_room_read` meets its contract. It tells what the entry answers, and each column keeps its length. Assumes nothing.
use Rattle.interflect.proofs.Told.{told_read}
use Rattle.interflect.proofs.reading.interflect_room_read.Goals as goal

pub returns : goal.returns
returns c =
    told_read _ _ _ _ _ c.room_read-answer.ensures c.tell_head.ensures
