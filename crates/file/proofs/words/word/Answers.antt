-- `file::words::word` meets its contract. The library puts the four bytes together, the least significant first. Assumes nothing.
use native.Mathlib.Omega.{arith}
use Rattle.file.proofs.Bytes.{word_in_lem}
use Rattle.file.proofs.words.word.Goals as goal

pub returns : goal.returns
returns c =
    rw (c.from_le_bytes.ensures, word_in_lem c.args.bytes.now c.args.k c.requires) (omega arith)
