-- `replay::line::words_in` meets its contract. The words read so far, and those that are left, are the words. Assumes nothing.
use Rattle.std.proofs.Common.{◌≡◌, ◌++◌, ◌-◌, length, List, ℕ}
use Rattle.std.specs.Prelude.{option_map}
use Rattle.replay.specs.Lines.{words_in}
use Rattle.replay.proofs.line.words_in.Given as goal

abbrev pub invariant-loop : goal.invariant-loop
invariant-loop l = record {
  so_far : option_map (λ (more : List ℕ). l.words ++ more) (words_in (16 - l.counter) l.rest) ≡ words_in 16 l.s;
  count : length l.words ≡ l.counter;
}
