-- What the grid and the reading leave through the C interface: document 01, 'The reading', 'The grid' and 'Refused calls'. Each takes what the outs held and gives the number that is
-- returned with what the outs and the slices hold then: a refused call leaves them as they were. Definitions only.
use Rattle.std.specs.Prelude.{List, ℕ, Float}
use Rattle.vector.specs.declared.Vec3.{Vec3}
use Rattle.grid.specs.Answers.{grid_build_answer, near_answer}
use Rattle.grid.specs.Lent.{Grid}
use Rattle.grid.specs.declared.Dims.{Dims}
use Rattle.surfel.specs.Checks.{Probes}
use Rattle.surfel.specs.Answers.{gather_answer, gather_all_answer}
use Rattle.surfel.specs.Gathering.{Surfels}
use Rattle.accept.specs.Refusal.{refusal_number}
use Rattle.outs.specs.Outs.{ReadingOut, left}
use Rattle.outs.specs.Surfels.{gather_left}

-- the entries
abbrev pub interflect_grid_build : ℕ → List Float → Vec3 → Vec3 → Float → Dims → List ℕ → List ℕ → ℕ × Dims × List ℕ × List ℕ
interflect_grid_build n p lo hi size held starts items =
    let r = grid_build_answer n p lo hi size starts items in
    let told = left r.0 held in
    (told.0, told.1, r.1, r.2)

abbrev pub interflect_near : Grid → Vec3 → ℕ → ℕ → List ℕ → ℕ × ℕ × List ℕ
interflect_near g p reach held list =
    let r = near_answer g p reach list in
    let told = left r.0 held in
    (told.0, told.1, r.1)

abbrev pub interflect_gather : Grid → Surfels → Vec3 → Vec3 → Float → ReadingOut → ℕ × ReadingOut
interflect_gather g s at normal radius held = gather_left (gather_answer g s at normal radius) held

abbrev pub interflect_gather_all : Grid → Surfels → Probes → List ℕ → List Float → ℕ × List ℕ × List Float
interflect_gather_all g s q seen light =
    let r = gather_all_answer g s q seen light in
    (refusal_number r.0, r.1, r.2)
