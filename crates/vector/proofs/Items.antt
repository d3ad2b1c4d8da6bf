-- Items stored one after the other from a place on. Assumes nothing.
use Rattle.std.proofs.Common.{◌≡◌, ℕ, suc, ◌+◌, ◌-◌, ◌<◌, List, [], ◌∷◌, length, get_or, take, drop, min, refl, arith}
use Rattle.std.proofs.lemmas.Grind.{common_steps}
use Rattle.std.proofs.lemmas.List.Edits.{sets, sets-eq}
use Rattle.std.proofs.Math.ListN.{set}
use Rattle.std.proofs.Math.Seq.{set_out}

-- nothing more is stored where no items are left, or no places
pub sets_none : {X : Type 0} (l : List X) (i : ℕ) (xs : List X) → min (length xs) (length l - i) ≡ 0 → sets l i xs ≡ l
sets_none l i [] h = refl
sets_none l i (x ∷ xs) h = rw (set_out l i x (omega arith)) (sets_none l (suc i) xs (omega arith))

-- as many items as there are places are all that is left
pub sets_all : {X : Type 0} (l xs : List X) → length l ≡ length xs → sets l 0 xs ≡ xs
sets_all l xs h = rw (sets-eq xs l 0 (omega (arith, h))) (grind (arith, common_steps))

-- one more item is stored, the next that has a place
pub sets_next : {X : Type 0} (l : List X) (at k n : ℕ) (xs : List X) (d : X) → k < length (take n xs)
    → sets (set l (at + k) (get_or (take n xs) k d)) (at + (k + 1)) (drop (k + 1) xs) ≡ sets l (at + k) (drop k xs)
sets_next l at k n xs d h = grind (arith, common_steps)
