-- What `build` answers and leaves, refused or not: document 01, 'The rows' and 'Refused calls'. Definitions only.
use Rattle.std.specs.Prelude.{cond, List, ℕ, ◌+◌, eqb, Float, length, Result, Ok, Err}
use Rattle.std.proofs.lemmas.List.Edits.{sets}
use Rattle.vector.specs.declared.Vec3.{Vec3}
use Rattle.vector.specs.Flat.{filled}
use Rattle.accept.specs.Refusal as refusal
use Rattle.formfactor.specs.declared.BuildError.{BuildError}
use Rattle.formfactor.specs.declared.BuildError.TheVariants.{Refused, Full}
use Rattle.formfactor.specs.declared.Built.{Built}
use Rattle.formfactor.specs.Lent.{Setting}
use Rattle.formfactor.specs.Building.{clusters_of, weights_of, start_of, interior, mean_of, evals_of, capacity, fitting}
use Rattle.formfactor.specs.Checks.{check}

-- document 01's number of an answer: a refusal's, 8 where a row did not fit, 0 where all is done
abbrev pub number_of : Result Built BuildError → ℕ
number_of (Ok b) = 0
number_of (Err (Refused r)) = refusal.number_of r
number_of (Err (Full row)) = 8

-- the answer where so many rows were written: done with all n, else refused with 8 and the row that doesn't fit
unfoldable pub built_answer : Setting → ℕ → Result Built BuildError
built_answer t r =
    cond (eqb r t.n) (Ok (record { links = start_of t t.n; mean_row_sum = mean_of (interior t t.n); evals = evals_of t t.n })) (Err (Full r))

-- the answer, starts and links of a call that 2 to 6 don't refuse
unfoldable pub built : Setting → List ℕ → List ℕ → List Float → Result Built BuildError × List ℕ × List ℕ × List Float
built t starts cluster weight =
    let r = fitting t (capacity (length cluster) (length weight)) in
    (built_answer t r, filled (start_of t) (r + 1) starts, sets cluster 0 (clusters_of t r), sets weight 0 (weights_of t r))

-- and of any call, with the bounds from lo to hi; the scratch is given by its lengths
unfoldable pub build_answer : Vec3 → Vec3 → Setting → List ℕ → List ℕ → List Float → ℕ → ℕ → Result Built BuildError × List ℕ × List ℕ × List Float
build_answer lo hi t starts cluster weight link scratch =
    refusal.outcome (λ r. (Err (Refused r), starts, cluster, weight)) (built t starts cluster weight) (check lo hi t (length starts) link scratch)

-- how much of the scratch is left open: a number and a float a cluster, and none of a call that is refused with 2 to 6
unfoldable pub scratch_open : Vec3 → Vec3 → Setting → ℕ → ℕ → ℕ → ℕ
scratch_open lo hi t starts link scratch = refusal.outcome (λ r. 0) t.emitters.nc (check lo hi t starts link scratch)
