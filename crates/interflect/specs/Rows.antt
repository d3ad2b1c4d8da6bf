-- What clusters and rows leave through the C interface: document 01, 'The rows' and 'Refused calls'. Each gives the number that is returned with what the outs and the slices hold then:
-- a refusal leaves the outs as they were, but 8 tells the row that did not fit. Definitions only.
use Rattle.std.specs.Prelude.{List, ℕ, Float}
use Rattle.vector.specs.declared.Vec3.{Vec3}
use Rattle.clusters.specs.declared.Clustered.{Clustered}
use Rattle.clusters.specs.Answers.{build_clusters_answer}
use Rattle.clusters.specs.Lent.{Surfels, Columns}
use Rattle.formfactor.specs.Answers.{build_answer}
use Rattle.formfactor.specs.Lent.{Setting}
use Rattle.outs.specs.Outs.{BuildOut, left}
use Rattle.outs.specs.Rows.{build_left}

-- the entries
abbrev pub interflect_build_clusters : Surfels → Vec3 → Vec3 → ℕ → Clustered → Columns → ℕ → ℕ → ℕ × Clustered × Columns
interflect_build_clusters s lo hi res held l order spare =
    let a = build_clusters_answer s lo hi res l order spare in
    let told = left a.0 held in
    (told.0, told.1, a.1)

abbrev pub interflect_build : Vec3 → Vec3 → Setting → BuildOut → List ℕ → List ℕ → List Float → ℕ → ℕ → ℕ × BuildOut × List ℕ × List ℕ × List Float
interflect_build lo hi t held starts cluster weight link scratch =
    let a = build_answer lo hi t starts cluster weight link scratch in
    let left = build_left a.0 held in
    (left.0, left.1, a.1, a.2, a.3)
