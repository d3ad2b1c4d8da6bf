-- The light in a file's room: document 01, 'The room file and `roomlight`' (resets, solves, reads the probes). The run, the grid and the readings are those of the crates that make them. Definitions only.
use Rattle.std.specs.Prelude.{Bool, List, ℕ, ◌+◌, ◌*◌, ltb, replicate}
use Rattle.float.specs.Arithmetic.{◌/f◌, 0f, 1f}
use Rattle.grid.specs.Building.{grid_starts, grid_items}
use Rattle.grid.specs.Cells.{dims_of, cells}
use Rattle.grid.specs.Lent.{Grid, grid_of}
use Rattle.surfel.specs.Answers.{reading_at}
use Rattle.surfel.specs.declared.Reading.{Reading}
use Rattle.surfel.specs.Gathering.{Surfels, surfels_of}
use Rattle.transfer.specs.Room.{Light, light_of}
use Rattle.solve.specs.Runs.{Run, run}
use Rattle.file.specs.declared.ProbeBox.{ProbeBox}
use Rattle.file.specs.Blocks.{counts_in}
use Rattle.file.specs.Rooms.{room_of_file, points_of_file, normals_of_file, box_of_file, probes_of_file}

-- a reset: rad is the direct light, irr zero
unfoldable pub start_light : List ℕ → Light
start_light b = light_of (replicate (3 * (counts_in b).surfels) 0f) (room_of_file b).direct

-- the solve, with the file's limit
unfoldable pub run_of_file : List ℕ → Run
run_of_file b = run (room_of_file b) (counts_in b).limit (start_light b)

-- the places that `roomlight` has for the starts of a grid
abbrev pub max_starts : ℕ
max_starts = 16384

-- 4: the starts of a grid over this box, one more than its cells, are no more
abbrev pub grid_fits : ProbeBox → Bool
grid_fits x = ltb (cells (dims_of x.lo x.hi x.cell)) max_starts

-- the grid of the surfels, in lists of its need
unfoldable pub grid_of_file : List ℕ → Grid
grid_of_file b =
    let n = (counts_in b).surfels in
    let x = box_of_file b in
    let d = dims_of x.lo x.hi x.cell in
    grid_of n (grid_starts n (points_of_file b) x.lo (1f /f x.cell) d (replicate (cells d + 1) 0))
    (grid_items n (points_of_file b) x.lo (1f /f x.cell) d (replicate n 0)) x.lo x.hi x.cell

-- the surfels with the irr that the solve left
unfoldable pub surfels_of_file : List ℕ → Surfels
surfels_of_file b = surfels_of (points_of_file b) (normals_of_file b) (run_of_file b).light.irr

-- the reading at probe i
unfoldable pub reading_of_file : List ℕ → ℕ → Reading
reading_of_file b i = reading_at (grid_of_file b) (surfels_of_file b) (probes_of_file b) i
