-- `report::accepted::Accepted::probe_box` meets its contract. That the starts of the grid fit was tested. Assumes nothing.
use Rattle.report.proofs.Fitting.{starts_fit}
use Rattle.report.proofs.accepted.Accepted.probe_box.Goals as goal

pub returns-clause-fits : goal.returns-clause-fits
returns-clause-fits c = starts_fit c.args.self.now.file.now c.args.self.now.accepted c.probe_box.ensures
