-- `file::words::float_at` meets its contract. The bits are those of the word. Assumes nothing.

use Rattle.file.proofs.words.float_at.Goals as goal

pub returns : goal.returns
returns c =
    rw (c.of_bits.ensures, c.word_at.ensures)
