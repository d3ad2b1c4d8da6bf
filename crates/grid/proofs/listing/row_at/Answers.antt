-- `grid::listing::row_at` meets its contract. Every row of a block that can be walked lies within starts. Assumes nothing.
use native.Mathlib.Omega.{arith}
use Rattle.grid.proofs.listing.row_at.Goals as goal

pub overflow_mul-c : goal.overflow_mul-c
overflow_mul-c c =
    omega (arith, c.requires.rows_held.started _ _ c.requires.y_lt_rows c.requires.z_lt_layers)

pub overflow_add-c : goal.overflow_add-c
overflow_add-c c =
    omega (arith, c.requires.rows_held.started _ _ c.requires.y_lt_rows c.requires.z_lt_layers)

pub overflow_mul-c-2 : goal.overflow_mul-c-2
overflow_mul-c-2 c =
    omega (arith, c.requires.rows_held.started _ _ c.requires.y_lt_rows c.requires.z_lt_layers)

pub overflow_add-c-2 : goal.overflow_add-c-2
overflow_add-c-2 c =
    omega (arith, c.requires.rows_held.started _ _ c.requires.y_lt_rows c.requires.z_lt_layers)

pub offset_bounds-starts-c : goal.offset_bounds-starts-c
offset_bounds-starts-c c =
    omega (arith, c.requires.rows_held.started _ _ c.requires.y_lt_rows c.requires.z_lt_layers)

pub bounds-starts-c : goal.bounds-starts-c
bounds-starts-c c =
    omega (arith, c.requires.rows_held.started _ _ c.requires.y_lt_rows c.requires.z_lt_layers)

pub overflow_add-c-3 : goal.overflow_add-c-3
overflow_add-c-3 c =
    omega (arith, c.requires.rows_held.started _ _ c.requires.y_lt_rows c.requires.z_lt_layers)

pub offset_bounds-starts-c-2 : goal.offset_bounds-starts-c-2
offset_bounds-starts-c-2 c =
    omega (arith, c.requires.rows_held.started _ _ c.requires.y_lt_rows c.requires.z_lt_layers)

pub bounds-starts-c-2 : goal.bounds-starts-c-2
bounds-starts-c-2 c =
    c.requires.rows_held.started _ _ c.requires.y_lt_rows c.requires.z_lt_layers

pub returns : goal.returns
returns c =
    record { from_value = c.wide.ensures; to_value = c.wide-2.ensures }
