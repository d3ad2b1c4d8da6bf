-- `file::words::word_at` meets its contract. A word that the file has not is 0. Assumes nothing.
use mathlib.Core.Path.{sym}
use Rattle.file.proofs.Bytes.{word_none}
use Rattle.file.proofs.words.word_at.Goals as goal

pub returns-else-k-bytes : goal.returns-else-k-bytes
returns-else-k-bytes c =
    sym (word_none _ _ c.if-k-bytes.false)
