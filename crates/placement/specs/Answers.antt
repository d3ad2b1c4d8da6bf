-- What `generate` answers and leaves, refused or not: document 01, 'Placement' and 'Refused calls'. Definitions only.
use Rattle.std.specs.Prelude.{ℕ, length, Result, Ok, Err}
use Rattle.vector.specs.declared.Vec3.{Vec3}
use Rattle.accept.specs.declared.refusal.Refusal.{Refusal}
use Rattle.accept.specs.Refusal.{outcome}
use Rattle.seeds.specs.declared.Surfel.{Surfel}
use Rattle.seeds.specs.Surfels.{surfel_at}
use Rattle.placement.specs.Lent.{Request, Columns}
use Rattle.placement.specs.Kept.{point_at, placed, columns_by}
use Rattle.placement.specs.Checks.{spacing_for, head_need, check}

-- the surfel at a point
abbrev pub surfel_of : Request → Vec3 → Surfel
surfel_of o p = surfel_at o.scene o.mats o.materials (spacing_for o) p

-- the answer and the columns: as many surfels as points are kept, each at its point. The scratch is given by its lengths
unfoldable pub generate_answer : Request → Columns → ℕ → ℕ → Result ℕ Refusal × Columns
generate_answer o l head next =
    let ps = placed o.scene (spacing_for o) o.target in
    outcome (λ refusal. (Err refusal, l)) (Ok (length ps), columns_by (λ i. surfel_of o (point_at ps i)) (length ps) l)
    (check o l head next)

-- how much of head and of next is left open: what is needed, and none of a call that is refused
unfoldable pub head_open : Request → Columns → ℕ → ℕ → ℕ
head_open o l head next = outcome (λ refusal. 0) (head_need o) (check o l head next)

unfoldable pub next_open : Request → Columns → ℕ → ℕ → ℕ
next_open o l head next = outcome (λ refusal. 0) o.target (check o l head next)
