-- `report::writing::put_probes` meets its contract. After i turns the first i lines are stored, of at most 45 bytes each. Assumes nothing.
use mathlib.Core.Path.{◌≡◌}
use lib.ListN.{length}
use lib.Seq.{sets}
use Rattle.vector.specs.Flat.{rows}
use Rattle.report.proofs.Texts.{line_at}
use Rattle.report.proofs.writing.put_probes.Given as goal

abbrev pub invariant-loop-i : goal.invariant-loop-i
invariant-loop-i l = (l.text ≡ sets l.initial.text 0 (rows (line_at l.seen l.light) l.i)) × (l.end ≡ length (rows (line_at l.seen l.light) l.i))
