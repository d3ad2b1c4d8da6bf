-- A word of a file: its four bytes, or 0 where the file has no such word. Assumes nothing.
use mathlib.Core.List.{List}
use mathlib.Core.Path.{◌≡◌}
use Prim.Native.Nat.{ℕ, ◌+◌, ◌*◌, ◌≤◌, ◌<◌}
use borrow.Author.Tests.{lt-ltb, le-ltb}
use Rattle.accept.specs.Tables.{number_at}
use Rattle.file.specs.Words.{words, word_in}

pub word_in_lem : (b : List ℕ) (k : ℕ) → k < words b
    → word_in b k ≡ number_at b (4 * k) + 256 * number_at b (4 * k + 1) + 65536 * number_at b (4 * k + 2) + 16777216 * number_at b (4 * k + 3)
unfolding word_in
word_in_lem b k h = rw (lt-ltb k (words b) h)

pub word_none : (b : List ℕ) (k : ℕ) → words b ≤ k → word_in b k ≡ 0
unfolding word_in
word_none b k h = rw (le-ltb k (words b) h)
