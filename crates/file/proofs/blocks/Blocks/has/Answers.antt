-- `file::Blocks::has` meets its contract. The numbers are tested one by one until the sum of the last test cannot be too large. Assumes nothing.
use Rattle.file.specs.Columns.{inside}
use Rattle.file.proofs.Entries.{far_outside}
use Rattle.file.proofs.blocks.Blocks.has.Goals as goal
use Rattle.file.proofs.blocks.Blocks.has.Goals.{then-not-near-via-then-not-near, then-not-near-via-else-not-near+then-words-place}

pub returns-then-not-near : goal.returns-then-not-near
unfolding inside
returns-then-not-near c =
    elim c.then-not-near.branch [
      | then-not-near-via-then-not-near w ↦ rw w.if-not-near.true
      | then-not-near-via-else-not-near+then-words-place w ↦ far_outside _ c.args.place w.if-not-near.false w.if-words-place.true
    ]

pub returns : goal.returns
unfolding inside
returns c =
    rw c.if-not-near.false
