-- Words put into a table, and shown of it. Assumes nothing.
use Rattle.std.proofs.Common.{◌≡◌, ℕ, suc, ◌+◌, ◌-◌, ◌<◌, ◌≤◌, List, [], ◌∷◌, length, get_or, take, drop, map, min, refl, arith}
use Rattle.std.proofs.lemmas.Grind.{common_steps}
use Rattle.std.proofs.lemmas.List.Edits.{sets}
use Rattle.std.proofs.Math.ListN.{set}
use Rattle.std.proofs.Math.Seq.{set_out}
use Rattle.replay.specs.Words.{with}

-- nothing more is stored where no words are left, or no places
pub sets_none : {X : Type 0} (l : List X) (i : ℕ) (xs : List X) → min (length xs) (length l - i) ≡ 0 → sets l i xs ≡ l
sets_none l i [] h = refl
sets_none l i (x ∷ xs) h = rw (set_out l i x (omega arith)) (sets_none l (suc i) xs (omega arith))

-- one more word is stored, the next that has a place
pub sets_next : {X : Type 0} (f : ℕ → X) (l : List X) (at k n : ℕ) (words : List ℕ) → k < length (take n words)
    → sets (set l (at + k) (f (get_or (take n words) k 0))) (at + (k + 1)) (map f (drop (k + 1) words)) ≡ sets l (at + k) (map f (drop k words))
sets_next f l at k n words h = grind (arith, common_steps)

-- one more word is shown
pub shown_next : {X : Type 0} (f : X → ℕ) (xs : List X) (i : ℕ) (x : X) → i < length xs → length xs ≤ 16 → x ≡ get_or xs i x
    → with (map f (take i xs)) (f x) ≡ map f (take (i + 1) xs)
shown_next f xs i x h few e = grind (arith, common_steps)
