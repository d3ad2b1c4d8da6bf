-- A surfel and a cluster that face each other or not, and what that makes of their link. Assumes nothing.
use Rattle.std.specs.Prelude.{None}
use Prim.Native.Nat.{◌≤◌}
use native.Mathlib.Omega.{arith}
use lib.Ieee.{Float}
use Rattle.tables.specs.Tables.{Scene}
use Rattle.field.proofs.Chosen.{chosen}
use Rattle.scene.proofs.Evals.{shadow_evals}
use Rattle.clusters.specs.declared.Cluster.{Cluster}
use Rattle.links.specs.declared.Receiver.{Receiver}
use Rattle.links.specs.declared.Pair.{Pair}
use Rattle.links.specs.Pairs.{factor, faces, seen, linked_by, pair_of}

-- a pair takes at most 96 evaluations
pub pair_evals : (s : Scene) (diag : Float) (a : Receiver) (c : Cluster) → (pair_of s diag a c).evals ≤ 96
unfolding pair_of linked_by seen
pair_evals s diag a c =
    chosen (λ (pair : Pair). pair.evals ≤ 96) (faces a c) (linked_by (factor a c) (seen s diag a c)) (record { weight = None; evals = 0 })
    (shadow_evals s _ _ _ _ _) (omega arith)
