-- A column of floats has those of each entry. Assumes nothing.
use mathlib.Core.Path.{sym}
use Rattle.file.proofs.Entries.{floats_length}
use Rattle.file.proofs.lying.LyingListedF32.count.Goals as goal

pub returns : goal.returns
returns c = sym (floats_length c.args.self.bytes.now c.args.self.place)
