-- Flat lists, vectors at three places each (document 01, 'What changes shape': lent slices), and what a loop that writes from the front leaves. Definitions only.
use Rattle.std.specs.Prelude.{List, [], ◌∷◌, ◌++◌, ◌≡◌, ℕ, zero, suc, ◌+◌, ◌*◌, drop, Float}
use Rattle.std.specs.Borrow.{Bor, MutBor}
use denote.Triple.Both.{Both}
use Rattle.std.proofs.lemmas.List.Edits.{sets}
use Rattle.float.specs.Column.{float_at}
use Rattle.vector.specs.declared.Vec3.{Vec3}
use Rattle.vector.specs.Vector.{vec}

-- a value at a function's two moments, entry and exit
abbrev pub Moments : Type 0 → Type 0
Moments X = Both X X

-- a number that is written through a reference
abbrev pub Out : Type 0 → Type 0
Out X = Moments (MutBor X)

-- a lent slice, one that is read and one that is written
abbrev pub Slice : Type 0 → Type 0
Slice X = Moments (Bor (List X))

abbrev pub MutSlice : Type 0 → Type 0
MutSlice X = Out (List X)

-- a slice is as it was from place k on
abbrev pub KeptFrom : {X : Type 0} → ℕ → MutSlice X → Type 0
KeptFrom k l = drop k l.exit.now ≡ drop k l.entry.now

-- the vector number i of a flat list; a float outside is NaN
abbrev pub vec_at : List Float → ℕ → Vec3
vec_at l i = vec (float_at l (3 * i)) (float_at l (3 * i + 1)) (float_at l (3 * i + 2))

-- a vector's three floats
abbrev pub components : Vec3 → List Float
components v = v.x ∷ v.y ∷ v.z ∷ []

-- the list with v as its vector number i; a float outside is left out
abbrev pub put_at : List Float → ℕ → Vec3 → List Float
put_at l i v = sets l (3 * i) (components v)

-- row 0, row 1, .. , n of them, one after the other
unfoldable pub rows : {A : Type 0} → (ℕ → List A) → ℕ → List A
rows row zero = []
rows row (suc n) = rows row n ++ row n

-- the list with its first n rows, of w places each, replaced by row 0, row 1, ..
unfoldable pub replaced : {A : Type 0} → ℕ → (ℕ → List A) → ℕ → List A → List A
unfolding rows
replaced w row n l = rows row n ++ drop (w * n) l

-- with its first n vectors replaced by g 0, g 1, ..
abbrev pub written : (ℕ → Vec3) → ℕ → List Float → List Float
written g n l = replaced 3 (λ i. components (g i)) n l

-- with its first n elements replaced by g 0, g 1, ..
abbrev pub filled : {A : Type 0} → (ℕ → A) → ℕ → List A → List A
filled g n l = replaced 1 (λ i. g i ∷ []) n l
