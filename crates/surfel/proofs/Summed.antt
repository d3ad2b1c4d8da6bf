-- The surfels of listed numbers weighed one after the other, a row more at a time: what the loop over the rows cites. Assumes nothing.
use mathlib.Core.Path.{◌≡◌}
use mathlib.Core.List.{List, ◌++◌, foldl-append}
use Prim.Native.Nat.{ℕ}
use lib.ListN.{length}
use Rattle.std.specs.List.{All}
use Rattle.std.proofs.Math.Seq.{take-append_seam, drop-append_seam}
use Rattle.std.proofs.lemmas.List.Elements.{All-take, All-drop}
use Rattle.surfel.specs.declared.Probe.{Probe}
use Rattle.surfel.specs.declared.Weighed.{Weighed}
use Rattle.surfel.specs.Weighing.{weigh}
use Rattle.surfel.specs.Gathering.{Surfels, surfel_at, weigh_all}

module _ (s : Surfels) (probe : Probe) where
  -- the surfel number i, weighed after those of b
  abbrev step : Weighed → ℕ → Weighed
  step b i = weigh probe b (surfel_at s i)

  -- a row more: b becomes c, with the surfels of the row
  pub weigh_row : (row rest : List ℕ) (b : Weighed) {c whole : Weighed} → weigh_all s probe b (row ++ rest) ≡ whole
      → c ≡ weigh_all s probe b row → weigh_all s probe c rest ≡ whole
  weigh_row row rest b p e = rw e (rw (foldl-append step b row rest) at p)

-- what holds of each number of a row and those after it, holds of the row's and of those
pub all_split : {A : Type 0} (P : A → Type 0) (row rest : List A) → All P (row ++ rest) → All P row × All P rest
all_split P row rest h =
    (rw take-append_seam at (All-take P (length row) (row ++ rest) h), rw drop-append_seam at (All-drop P (length row) (row ++ rest) h))
