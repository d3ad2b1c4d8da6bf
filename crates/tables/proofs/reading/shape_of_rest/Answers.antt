-- `tables::reading::shape_of_rest` meets its contract. It makes a list of eight. Assumes nothing.
use Rattle.tables.proofs.Outside.{eight_enough}
use Rattle.tables.proofs.reading.shape_of_rest.Goals as goal

pub returns : goal.returns
returns c =
    rw (c.shape_of.ensures, c.float_at-8.ensures, c.float_at-7.ensures, c.float_at-6.ensures, c.float_at-5.ensures, c.float_at-4.ensures, c.float_at-3.ensures, c.float_at-2.ensures, c.float_at.ensures) (eight_enough _ _)
