-- `interflect::scenes::interflect_trace` meets its contract. It tells what the entry answers. Assumes nothing.
use Rattle.outs.specs.Scenes.{trace_left}
use Rattle.interflect.proofs.Told.{told}
use Rattle.interflect.proofs.scenes.interflect_trace.Goals as goal

pub returns : goal.returns
returns c =
    told trace_left c.tell_traced.ensures (rw (c.vec.ensures, c.vec-2.ensures) at c.trace-answer.ensures)
