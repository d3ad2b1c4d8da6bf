-- `file::Blocks::found` meets its contract. What was tested says that the column lies in the file. Assumes nothing.
use mathlib.Core.Path.{sym, ◌∙◌}
use Rattle.file.proofs.Entries.{is_inside}
use Rattle.file.proofs.blocks.Blocks.found.Goals as goal

pub invariant_of-result : goal.invariant_of-result
invariant_of-result c =
    record { inside = is_inside c.args.self.now.bytes.now c.args.place (sym c.has.ensures ∙ c.if-has.true) }
