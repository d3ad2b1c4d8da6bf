-- `replay::replaying::run_lines` is safe: the text has as many places as are lent of it. Assumes nothing.
use Rattle.input.proofs.Buffers.{length_zeros}
use Rattle.replay.proofs.replaying.run_lines.Goals as goal

pub slice_bounds-read_full-end : goal.slice_bounds-read_full-end
slice_bounds-read_full-end g c = length_zeros 524288
