-- `solve::rows::LitRows::two_rows` meets its contract. Each row's sum goes on from the links that both were summed by. Assumes nothing.
use Rattle.solve.specs.Held.{triple}
use Rattle.solve.specs.Lit.{rows_lit}
use Rattle.solve.proofs.Lighted.{row_light_by}
use Rattle.solve.proofs.rows.LitRows.two_rows.Goals as goal

pub returns : goal.returns
returns c =
    let rs = rows_lit c.args.self.now in
    let light = triple c.args.self.now.light.now in
    record {
      first_value = row_light_by rs light c.args.i c.wide-a.ensures c.wide.ensures c.row_light-first.ensures;
      second_value = row_light_by rs light c.args.k c.wide-b.ensures c.wide-2.ensures c.row_light-second.ensures;
    }
