-- A list whose first rows are replaced, one more at a time: what a loop that writes from the front cites. Rows have w places each; `written` has rows of three
-- floats, `filled` of one element. Assumes nothing.
use mathlib.Core.Path.{◌≡◌, refl, sym, ap, ◌∙◌}
use mathlib.Core.List.{List, [], ◌∷◌, ◌++◌, append_assoc, append-nil}
use mathlib.Core.Logic.{⊎_elim}
use Prim.Native.Nat.{ℕ, zero, suc, ◌+◌, ◌-◌, ◌*◌, ◌<◌, ◌≤◌}
use native.Mathlib.Numerals.{add-one}
use native.Mathlib.Nat.{mul-zero, mul-suc, mul-add, eq-or-lt_of_le}
use native.Mathlib.Omega.{arith}
use lib.ListN.{length, get_or, take, drop, set, length-append, length-take, length-drop, take-append-drop, drop_of_length-le}
use lib.Seq.{sets, sets-eq, take_at, take-add, drop_at, drop-cons, drop-drop, get_or-drop, get_or-take, ext_get_or}
use lib.Ieee.{Float, nan}
use Rattle.vector.specs.declared.Vec3.{Vec3}
use Rattle.vector.specs.Vector.{vec}
use Rattle.vector.specs.Flat.{vec_at, put_at, components, rows, replaced, written, filled}

module _ {A : Type 0} (w : ℕ) (row : ℕ → List A) (wide : (i : ℕ) → length (row i) ≡ w) where
  pub length_rows : (n : ℕ) → length (rows row n) ≡ w * n
  unfolding rows
  length_rows zero = rw mul-zero
  length_rows (suc n) = rw (length-append, length_rows n, wide n, mul-suc) refl

  pub length_replaced : (n : ℕ) (l : List A) → w * n ≤ length l → length (replaced w row n l) ≡ length l
  unfolding replaced
  length_replaced n l h = rw (length-append, length_rows, length-drop) (omega arith)

  pub replaced_none : (l : List A) → l ≡ replaced w row 0 l
  unfolding replaced rows
  replaced_none l = rw mul-zero

  -- the next row, stored where the rows written so far end
  pub replaced_more : (n : ℕ) (l : List A) → w * n + w ≤ length l → sets (replaced w row n l) (w * n) (row n) ≡ replaced w row (suc n) l
  unfolding replaced rows
  replaced_more n l h =
      let R = rows row n in
      let D = drop (w * n) l in
      let e : length R ≡ w * n = length_rows n in
      sets-eq (row n) (R ++ D) (w * n) (rw (wide n, length-append, e, length-drop) (omega arith))
      ∙ rw (wide n, take_at R D (w * n) e, ← drop-drop w (w * n) (R ++ D), drop_at R D (w * n) e, drop-drop, mul-suc)

  -- a row that was written
  row_at : (n i : ℕ) (q : List A) → i < n → take w (drop (w * i) (rows row n ++ q)) ≡ row i
  unfolding rows
  row_at zero i q h = absurd (omega arith)
  row_at (suc n) i q h =
      let last : take w (drop (w * n) (rows row n ++ (row n ++ q))) ≡ row n = rw (drop_at (rows row n) (row n ++ q) (w * n) (length_rows n), take_at (row n) q w (wide n)) in
      rw append_assoc (⊎_elim (λ e. rw e last) (λ k. row_at n i _ k) (eq-or-lt_of_le {n = i} {m = n} (omega arith)))

  pub row_written : (n i : ℕ) (l : List A) → i < n → take w (drop (w * i) (replaced w row n l)) ≡ row i
  unfolding replaced
  row_written n i l h = row_at n i _ h

  -- what was not reached
  pub rest_kept : (n i : ℕ) (l : List A) → n ≤ i → drop (w * i) (replaced w row n l) ≡ drop (w * i) l
  unfolding replaced
  rest_kept n i l h =
      let e : i ≡ n + (i - n) = omega arith in
      let f : w * i ≡ w * n + w * (i - n) = ap (λ (k : ℕ). w * k) e ∙ mul-add w n (i - n) in
      rw (f, ← drop-drop (w * (i - n)) (w * n) (rows row n ++ drop (w * n) l), drop_at (rows row n) _ (w * n) (length_rows n), drop-drop)

  -- rows written into a list cut behind them
  pub replaced_cut : (n : ℕ) (l : List A) → replaced w row n (take (w * n) l) ≡ take (w * n) (replaced w row n l)
  unfolding replaced
  replaced_cut n l =
      let e = length-take (w * n) l in
      rw (drop_of_length-le (take (w * n) l) {i = w * n} (omega arith), append-nil, take_at (rows row n) (drop (w * n) l) (w * n) (length_rows n))

  -- rows that stand there already
  rows_there : (n : ℕ) (l : List A) → ((i : ℕ) → i < n → take w (drop (w * i) l) ≡ row i) → rows row n ≡ take (w * n) l
  unfolding rows
  rows_there zero l h = rw mul-zero
  rows_there (suc n) l h = rw (rows_there n l (λ i k. h i (omega arith)), ← h n (omega arith), ← take-add (w * n) w l, mul-suc)

  pub replaced_there : (n : ℕ) (l : List A) → ((i : ℕ) → i < n → take w (drop (w * i) l) ≡ row i) → replaced w row n l ≡ l
  unfolding replaced
  replaced_there n l h = rw (rows_there n l h) (take-append-drop (w * n) l)

-- only the first n rows count
pub rows_same : {A : Type 0} (f g : ℕ → List A) (n : ℕ) → ((i : ℕ) → i < n → f i ≡ g i) → rows f n ≡ rows g n
unfolding rows
rows_same f g zero h = refl
rows_same f g (suc n) h = rw (rows_same f g n (λ i k. h i (omega arith)), h n (omega arith))

pub replaced_same : {A : Type 0} (w : ℕ) (f g : ℕ → List A) (n : ℕ) (l : List A) → ((i : ℕ) → i < n → f i ≡ g i) → replaced w f n l ≡ replaced w g n l
unfolding replaced
replaced_same w f g n l h = rw (rows_same f g n h)

-- rows replaced once more, as many, are those that were replaced last
pub replaced_again : {A : Type 0} (w : ℕ) (f g : ℕ → List A) → ((i : ℕ) → length (g i) ≡ w) → (n : ℕ) (l : List A) → replaced w f n (replaced w g n l) ≡ replaced w f n l
unfolding replaced
replaced_again {A} w f g wide n l = ap (λ (d : List A). rows f n ++ d) (rest_kept w g wide n n l (omega arith))

-- ---- vectors

-- the place k of a list, as the place j of what is left from a on
place : {A : Type 0} (l : List A) (a j k : ℕ) (d : A) → k ≡ a + j → get_or l k d ≡ get_or (drop a l) j d
place l a j k d e = rw (e, get_or-drop)

three : {a b c x y z : Float} → a ≡ x → b ≡ y → c ≡ z → vec a b c ≡ vec x y z
three p q r = rw (p, q, r)

-- a vector is what stands at its three places
vec_by : (l : List Float) (i : ℕ) {v : Vec3} → take 3 (drop (3 * i) l) ≡ components v → vec_at l i ≡ v
vec_by l i {v} e = three (part 0 (3 * i) (omega arith) (omega arith)) (part 1 (3 * i + 1) (omega arith) (omega arith)) (part 2 (3 * i + 2) (omega arith) (omega arith))
  where
    part : (j k : ℕ) → k ≡ 3 * i + j → j < 3 → get_or l k nan ≡ get_or (components v) j nan
    part j k f h = place l (3 * i) j k nan f ∙ sym (get_or-take 3 (drop (3 * i) l) j nan h) ∙ ap (λ (m : List Float). get_or m j nan) e

vec_same : (l m : List Float) (i : ℕ) → drop (3 * i) l ≡ drop (3 * i) m → vec_at l i ≡ vec_at m i
vec_same l m i e = three (part 0 (3 * i) (omega arith)) (part 1 (3 * i + 1) (omega arith)) (part 2 (3 * i + 2) (omega arith))
  where
    part : (j k : ℕ) → k ≡ 3 * i + j → get_or l k nan ≡ get_or m k nan
    part j k f = place l (3 * i) j k nan f ∙ ap (λ (d : List Float). get_or d j nan) e ∙ sym (place m (3 * i) j k nan f)

-- where a list has all three places of a vector, they hold its floats
by_vec : (l : List Float) (i : ℕ) {v : Vec3} → 3 * i + 2 < length l → vec_at l i ≡ v → take 3 (drop (3 * i) l) ≡ components v
by_vec l i h e = front (3 * i) (3 * i + 1) (3 * i + 2) (omega arith) (omega arith) h ∙ ap components e
  where
    front : (a b c : ℕ) → b ≡ suc a → c ≡ suc (suc a) → c < length l → take 3 (drop a l) ≡ get_or l a nan ∷ get_or l b nan ∷ get_or l c nan ∷ []
    front a b c p q k = rw (p, q, drop-cons l a nan (omega arith), drop-cons l (suc a) nan (omega arith), drop-cons l (suc (suc a)) nan (omega arith))

-- a vector of what is left from vector a on
pub at_drop : (a : ℕ) (l : List Float) (i : ℕ) → vec_at (drop (3 * a) l) i ≡ vec_at l (a + i)
at_drop a l i = three (past (3 * i) (3 * (a + i)) (omega arith)) (past (3 * i + 1) (3 * (a + i) + 1) (omega arith)) (past (3 * i + 2) (3 * (a + i) + 2) (omega arith))
  where
    past : (j k : ℕ) → 3 * a + j ≡ k → get_or (drop (3 * a) l) j nan ≡ get_or l k nan
    past j k e = get_or-drop (3 * a) l j nan ∙ ap (λ (m : ℕ). get_or l m nan) e

-- a vector of a list cut past it
pub at_cut : (n : ℕ) (l : List Float) (i : ℕ) → i < n → vec_at (take (3 * n) l) i ≡ vec_at l i
at_cut n l i h =
    three (get_or-take (3 * n) l (3 * i) nan (omega arith)) (get_or-take (3 * n) l (3 * i + 1) nan (omega arith)) (get_or-take (3 * n) l (3 * i + 2) nan (omega arith))

module _ (g : ℕ → Vec3) where
  abbrev row : ℕ → List Float
  row i = components (g i)

  wide : (i : ℕ) → length (row i) ≡ 3
  wide i = refl

  pub length_written : (n : ℕ) (l : List Float) → 3 * n ≤ length l → length (written g n l) ≡ length l
  length_written = length_replaced 3 row wide

  pub written_none : (l : List Float) → l ≡ written g 0 l
  written_none = replaced_none 3 row wide

  -- d has n vectors written, v is the next, and e is d with v stored
  pub written_put : (n : ℕ) (l : List Float) {d e : List Float} {v : Vec3} → d ≡ written g n l → 3 * n + 2 < length l → v ≡ g n → e ≡ put_at d n v → e ≡ written g (n + 1) l
  written_put n l p h q r = rw (r, p, q, add-one n) (replaced_more 3 row wide n l (omega arith))

  -- reading what was written
  pub at_written : (n i : ℕ) (l : List Float) → i < n → vec_at (written g n l) i ≡ g i
  at_written n i l h = vec_by (written g n l) i (row_written 3 row wide n i l h)

  -- and what was not reached
  pub at_past : (n i : ℕ) (l : List Float) → n ≤ i → vec_at (written g n l) i ≡ vec_at l i
  at_past n i l h = vec_same (written g n l) l i (rest_kept 3 row wide n i l h)

  -- the vector that a loop has not reached yet is as it was
  pub at_next : (n : ℕ) (l : List Float) {d : List Float} {a : Vec3} → d ≡ written g n l → a ≡ vec_at d n → a ≡ vec_at l n
  at_next n l p q = rw (q, p) (at_past n n l (omega arith))

  -- the floats past the vectors written are as they were
  pub written_past : (n : ℕ) (l : List Float) → drop (3 * n) (written g n l) ≡ drop (3 * n) l
  written_past n l = rest_kept 3 row wide n n l (omega arith)

  -- vectors written into a list cut behind them
  pub written_cut : (n : ℕ) (l : List Float) → written g n (take (3 * n) l) ≡ take (3 * n) (written g n l)
  written_cut = replaced_cut 3 row wide

  -- vectors that stand there already
  pub written_there : (n : ℕ) (l : List Float) → 3 * n ≤ length l → ((i : ℕ) → i < n → vec_at l i ≡ g i) → written g n l ≡ l
  written_there n l h e = replaced_there 3 row wide n l (λ i k. by_vec l i (omega arith) (e i k))

pub written_same : (f g : ℕ → Vec3) (n : ℕ) (l : List Float) → ((i : ℕ) → i < n → f i ≡ g i) → written f n l ≡ written g n l
written_same f g n l h = replaced_same 3 (λ i. components (f i)) (λ i. components (g i)) n l (λ i k. ap components (h i k))

-- ---- single elements

module _ {A : Type 0} (g : ℕ → A) where
  abbrev one : ℕ → List A
  one i = g i ∷ []

  narrow : (i : ℕ) → length (one i) ≡ 1
  narrow i = refl

  pub length_filled : (n : ℕ) (l : List A) → n ≤ length l → length (filled g n l) ≡ length l
  length_filled n l h = length_replaced 1 one narrow n l (omega arith)

  pub filled_none : (l : List A) → l ≡ filled g 0 l
  filled_none = replaced_none 1 one narrow

  pub filled_put : (n : ℕ) (l : List A) {d e : List A} {v : A} → d ≡ filled g n l → n < length l → v ≡ g n → e ≡ set d n v → e ≡ filled g (n + 1) l
  filled_put n l {d} {e} {v} p h q r =
      let f : n ≡ 1 * n = omega arith in
      r ∙ rw (p, q, add-one n) (ap (λ (k : ℕ). set (filled g n l) k (g n)) f ∙ replaced_more 1 one narrow n l (omega arith))

  pub at_filled : (n i : ℕ) (l : List A) (d : A) → i < n → get_or (filled g n l) i d ≡ g i
  at_filled n i l d h =
      place (filled g n l) (1 * i) 0 i d (omega arith)
      ∙ sym (get_or-take 1 (drop (1 * i) (filled g n l)) 0 d (omega arith))
      ∙ ap (λ (m : List A). get_or m 0 d) (row_written 1 one narrow n i l h)

  pub rest_filled : (n i : ℕ) (l : List A) (d : A) → n ≤ i → get_or (filled g n l) i d ≡ get_or l i d
  rest_filled n i l d h =
      place (filled g n l) (1 * i) 0 i d (omega arith)
      ∙ ap (λ (m : List A). get_or m 0 d) (rest_kept 1 one narrow n i l h)
      ∙ sym (place l (1 * i) 0 i d (omega arith))

  -- the elements past those are as they were
  pub filled_past : (n : ℕ) (l : List A) → drop n (filled g n l) ≡ drop n l
  filled_past n l = let e : 1 * n ≡ n = omega arith in rw e at (rest_kept 1 one narrow n n l (omega arith))

-- a list stored over another of its length is that list
pub filled_whole : {A : Type 0} (l m : List A) (d : A) → length m ≡ length l → filled (λ k. get_or l k d) (length l) m ≡ l
filled_whole l m d e =
    let same : length (filled (λ k. get_or l k d) (length l) m) ≡ length l = length_filled (λ k. get_or l k d) (length l) m (omega arith) ∙ e in
    ext_get_or d (filled (λ k. get_or l k d) (length l) m) l same (λ i h. at_filled (λ k. get_or l k d) (length l) i m d (rw same at h))
