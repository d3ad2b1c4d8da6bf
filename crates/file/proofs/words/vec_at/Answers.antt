-- `file::words::vec_at` meets its contract. Its floats are those of three words. Assumes nothing.
use Rattle.file.proofs.words.vec_at.Goals as goal

pub returns : goal.returns
returns c =
    rw (c.float_at-3.ensures, c.float_at-2.ensures, c.float_at.ensures)
