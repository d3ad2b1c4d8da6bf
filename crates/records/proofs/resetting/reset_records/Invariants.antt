-- `records::resetting::reset_records` meets its contract. The loop has set the first i records. Assumes nothing.
use mathlib.Core.Path.{◌≡◌}
use Rattle.records.proofs.Columned.{set_to}
use Rattle.records.proofs.resetting.reset_records.Given as goal

abbrev pub invariant-loop-i : goal.invariant-loop-i
invariant-loop-i l = l.records ≡ set_to l.light l.i l.initial.records
