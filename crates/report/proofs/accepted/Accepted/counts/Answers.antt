-- `report::accepted::Accepted::counts` meets its contract. A file of at most 65,536 bytes has no more words than 16,384. Assumes nothing.
use Rattle.report.proofs.Fitting.{counts_short}
use Rattle.report.proofs.accepted.Accepted.counts.Goals as goal

pub returns-clause-fits : goal.returns-clause-fits
returns-clause-fits c = counts_short _ c.args.self.now.accepted c.counts.ensures
