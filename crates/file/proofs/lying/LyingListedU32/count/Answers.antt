-- A column of numbers has one a entry. Assumes nothing.
use mathlib.Core.Path.{sym}
use Rattle.file.proofs.Entries.{numbers_length}
use Rattle.file.proofs.lying.LyingListedU32.count.Goals as goal

pub returns : goal.returns
returns c = sym (numbers_length c.args.self.bytes.now c.args.self.place)
