-- The rows that the functions of rows.rt and faint_rows.rt are methods of. No public contract cites it. Definitions only.
use Rattle.transfer.specs.Room.{Rows, rows_of}
use Rattle.solve.specs.declared.rows.LitRows.{LitRows}

abbrev pub rows_lit : LitRows → Rows
rows_lit l = rows_of l.links l.starts.now l.cluster.now l.weight.now
