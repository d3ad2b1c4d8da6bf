-- `text::word` meets its contract. The digits read so far, followed by those that are left, spell what all eight spell. Assumes nothing.
use Rattle.text.specs.Words.{word_at}
use Rattle.text.proofs.Words.{ReadTo}
use Rattle.text.proofs.reading.word.Given as goal

abbrev pub invariant-loop-b : goal.invariant-loop-b
invariant-loop-b l = ReadTo l.b-items (word_at l.s l.at) l.n l.b-index
