-- Elements stored one after the other in a list, the rows of them that a loop stores, and what is kept. Assumes nothing.
use mathlib.Core.List.{List, [], ◌∷◌, ◌++◌, append_assoc, append-nil}
use mathlib.Core.Path.{◌≡◌, refl, sym, ap, ◌∙◌}
use mathlib.Core.Logic.{◌⊎◌, inl, inr}
use Prim.Native.Nat.{ℕ, zero, suc, ◌+◌, ◌-◌, ◌≤◌, ◌<◌, min}
use native.Mathlib.Nat.{add-zero, add-suc, zero-add, eq-or-lt_of_le}
use native.Mathlib.Numerals.{add-one}
use native.Mathlib.Omega.{arith}
use lib.ListN.{length, get_or, set, take, drop, length-append, length-take, take-append-drop}
use borrow.Rule.Slice.PartMut.{put_mid}
use lib.Seq.{drop-drop, slice, slice_empty, length-slice, sets, sets-eq, take-nil, take-suc, take_at, drop_at, drop-append-le, drop-set-lt, get_or-drop, get_or-take, length-take-le, take-length}
use Rattle.std.proofs.lemmas.Slice.{put_mid-paste}
use Rattle.vector.specs.Flat.{rows}

-- storing two lists is storing one, and the other after it
pub sets_append : {A : Type 0} (l : List A) (i : ℕ) (xs ys : List A) → sets l i (xs ++ ys) ≡ sets (sets l i xs) (i + length xs) ys
sets_append l i [] ys = rw (add-zero i)
sets_append {A} l i (x ∷ xs) ys =
    let e : suc i + length xs ≡ i + suc (length xs) = omega arith in
    sets_append (set l i x) (suc i) xs ys ∙ ap (λ (k : ℕ). sets (sets (set l i x) (suc i) xs) k ys) e

pub sets_front_append : {A : Type 0} (l xs ys : List A) → sets l 0 (xs ++ ys) ≡ sets (sets l 0 xs) (length xs) ys
sets_front_append {A} l xs ys = sets_append l 0 xs ys ∙ ap (λ (k : ℕ). sets (sets l 0 xs) k ys) (zero-add (length xs))

-- what lies past the stored elements is as it was
pub drop_sets : {A : Type 0} (l : List A) (i : ℕ) (xs : List A) (k : ℕ) → i + length xs ≤ k → drop k (sets l i xs) ≡ drop k l
drop_sets l i [] k h = refl
drop_sets l i (x ∷ xs) k h = drop_sets (set l i x) (suc i) xs k (omega arith) ∙ drop-set-lt k l i x (omega arith)

-- what lies past a place lies past any later one
pub past_later : {A : Type 0} (j k : ℕ) (l m : List A) → j ≤ k → drop j l ≡ drop j m → drop k l ≡ drop k m
past_later {A} j k l m h e =
    let f : k ≡ j + (k - j) = omega arith in
    ap (λ (i : ℕ). drop i l) f ∙ sym (drop-drop (k - j) j l) ∙ ap (drop (k - j)) e ∙ drop-drop (k - j) j m ∙ sym (ap (λ (i : ℕ). drop i m) f)

-- elements stored from the front on, as far as they fit
pub sets_front : {A : Type 0} (l xs : List A) → length xs ≤ length l → sets l 0 xs ≡ xs ++ drop (length xs) l
sets_front {A} l xs h = sets-eq xs l 0 (omega arith) ∙ ap (λ (k : ℕ). xs ++ drop k l) (zero-add (length xs))

-- they are its front
pub take_sets : {A : Type 0} (l xs : List A) (k : ℕ) → length xs ≡ k → k ≤ length l → take k (sets l 0 xs) ≡ xs
take_sets {A} l xs k e h = ap (take k) (sets_front l xs (omega (arith, e))) ∙ take_at xs (drop (length xs) l) k e

-- a front that is longer than the list is all of it
pub take_reached : {A : Type 0} (k : ℕ) (l : List A) → take (min k (length l)) l ≡ take k l
take_reached {A} zero l =
    let e : min 0 (length l) ≡ 0 = omega arith in
    ap (λ (j : ℕ). take j l) e
take_reached {A} (suc k) [] = take-nil (min (suc k) 0)
take_reached {A} (suc k) (x ∷ xs) =
    let e : min (suc k) (suc (length xs)) ≡ suc (min k (length xs)) = omega arith in
    ap (λ (j : ℕ). take j (x ∷ xs)) e ∙ ap (λ (r : List A). x ∷ r) (take_reached k xs)

-- a list's own front, stored, changes nothing
pub sets_own : {A : Type 0} (l : List A) (k : ℕ) → sets l 0 (take k l) ≡ l
sets_own {A} l k =
    sets_front l (take k l) (rw (length-take k l) (omega arith))
    ∙ ap (λ (j : ℕ). take k l ++ drop j l) (length-take k l)
    ∙ ap (λ (r : List A). r ++ drop (min k (length l)) l) (sym (take_reached k l))
    ∙ take-append-drop (min k (length l)) l

-- elements stored over by as many others they are gone
pub sets_over : {A : Type 0} (l xs ys : List A) → length ys ≡ length xs → length xs ≤ length l → sets (sets l 0 xs) 0 ys ≡ sets l 0 ys
sets_over {A} l xs ys e h =
    ap (λ (m : List A). sets m 0 ys) (sets_front l xs h)
    ∙ sets_front (xs ++ drop (length xs) l) ys (rw length-append (omega (arith, e)))
    ∙ ap (λ (m : List A). ys ++ m) (drop_at xs (drop (length xs) l) (length ys) (sym e))
    ∙ ap (λ (k : ℕ). ys ++ drop k l) (sym e)
    ∙ sym (sets_front l ys (omega (arith, e)))

-- a part of l, written over by as many elements, has them stored from its first place on
pub sets_part : {A : Type 0} (l ys : List A) (i k : ℕ) → length ys ≡ k → i + k ≤ length l → put_mid i k l ys ≡ sets l i ys
sets_part {A} l ys i k e h =
    put_mid-paste i k l ys ys k refl refl (sym e)
    ∙ ap (λ (m : List A). take i l ++ m ++ drop (i + k) l) (ap (λ (j : ℕ). take j ys) (sym e) ∙ take-length ys)
    ∙ ap (λ (j : ℕ). take i l ++ ys ++ drop (i + j) l) (sym e)
    ∙ sym (sets-eq ys l i (rw e h))

-- one element more of a slice
pub slice_more : {A : Type 0} (f t : ℕ) (l : List A) (z : A) → f ≤ t → t < length l → slice f (t + 1) l ≡ slice f t l ++ (get_or l t z ∷ [])
slice_more f t l z h k = rw (add-one t, take-suc l t z k) (drop-append-le f (take t l) (get_or l t z ∷ []) (rw (length-take-le t l (omega arith)) h))

-- a loop that stores a slice starts with none of it, and puts one element more to those stored
pub slice_none : {A : Type 0} (f at : ℕ) (l items : List A) → l ≡ sets l at (slice f (f + 0) items)
slice_none {A} f at l items = rw (add-zero f) (ap (sets l at) (sym (slice_empty f items)))

-- a loop that stores a slice puts one element more to those stored
pub slice_stored : {A : Type 0} (f j at : ℕ) (l items : List A) (z : A) {d e : List A} {x : A} → f + j < length items
    → d ≡ sets l at (slice f (f + j) items) → x ≡ get_or items (f + j) z → e ≡ set d (at + j) x → e ≡ sets l at (slice f (f + (j + 1)) items)
slice_stored f j at l items z h p q r =
    let a : f + (j + 1) ≡ f + j + 1 = omega arith in
    let n : length (slice f (f + j) items) ≡ j = length-slice f (f + j) items (omega arith) ∙ omega arith in
    rw (a, slice_more f (f + j) items z (omega arith) h, sets_append, n, r, q, p)

-- element j of a slice
pub slice_at : {A : Type 0} (f t j : ℕ) (l : List A) (z : A) → f + j < t → get_or (slice f t l) j z ≡ get_or l (f + j) z
slice_at f t j l z h = get_or-drop f (take t l) j z ∙ get_or-take t l (f + j) z h

-- one row more
pub rows_more : {A : Type 0} (f : ℕ → List A) (n : ℕ) → rows f (n + 1) ≡ rows f n ++ f n
unfolding rows
rows_more f n = rw (add-one n)

-- d has n rows stored from place i on, and e has the next row stored after them
pub rows_stored : {A : Type 0} (f : ℕ → List A) (n i : ℕ) (l : List A) {d e : List A} {k : ℕ}
    → d ≡ sets l i (rows f n) → k ≡ i + length (rows f n) → e ≡ sets d k (f n)
    → (e ≡ sets l i (rows f (n + 1))) × (k + length (f n) ≡ i + length (rows f (n + 1)))
rows_stored f n i l p q r = (
  rw (r, q, p, rows_more f n) (sym (sets_append l i (rows f n) (f n))),
  rw (rows_more f n, length-append) (omega (arith, q)),
)

-- the rows so far are no longer than all of them
pub rows-length : {A : Type 0} (f : ℕ → List A) (n m : ℕ) → n < m → length (rows f n) + length (f n) ≤ length (rows f m)
unfolding rows
rows-length f n zero h = absurd (omega arith)
rows-length f n (suc m) h = rw length-append (by_cases (rows-length f n m) (eq-or-lt_of_le {n = n} {m = m} (omega arith)))
  where
    by_cases : (n < m → length (rows f n) + length (f n) ≤ length (rows f m)) → (n ≡ m) ⊎ (n < m) → length (rows f n) + length (f n) ≤ length (rows f m) + length (f m)
    by_cases before (inl e) = rw e (omega arith)
    by_cases before (inr k) = omega (arith, before k)

-- the rows so far are counted, and the next
pub rows_counted : {A : Type 0} (f : ℕ → List A) (n : ℕ) {count r : ℕ} → count ≡ length (rows f n) → r ≡ length (f n) → count + r ≡ length (rows f (n + 1))
rows_counted f n p q = rw (rows_more f n, length-append, p, q)

-- rows after the first a
pub rows_split : {A : Type 0} (f : ℕ → List A) (a m : ℕ) → rows f (a + m) ≡ rows f a ++ rows (λ i. f (a + i)) m
unfolding rows
rows_split f a zero = rw (add-zero a) (sym (append-nil (rows f a)))
rows_split f a (suc m) = rw (add-suc a m, rows_split f a m) (append_assoc (rows f a) (rows (λ i. f (a + i)) m) (f (a + m)))

-- rows a to a + m, of n rows that are stored from the front on
pub rows_slice : {A : Type 0} (f : ℕ → List A) (a m n : ℕ) (l : List A) → a + m ≤ n → length (rows f n) ≤ length l
    → slice (length (rows f a)) (length (rows f (a + m))) (sets l 0 (rows f n)) ≡ rows (λ i. f (a + i)) m
rows_slice {A} f a m n l h k =
    let e : n ≡ a + m + (n - (a + m)) = omega arith in
    let R : List A = rows (λ i. f (a + m + i)) (n - (a + m)) in
    let all : rows f n ≡ rows f (a + m) ++ R = ap (rows f) e ∙ rows_split f (a + m) (n - (a + m)) in
    let D : List A = drop (length (rows f n)) l in
    ap (λ (x : List A). slice (length (rows f a)) (length (rows f (a + m))) x) (sets_front l (rows f n) k)
    ∙ ap (λ (x : List A). slice (length (rows f a)) (length (rows f (a + m))) (x ++ D)) all
    ∙ ap (λ (x : List A). drop (length (rows f a)) x)
    (ap (take (length (rows f (a + m)))) (append_assoc (rows f (a + m)) R D) ∙ take_at (rows f (a + m)) (R ++ D) (length (rows f (a + m))) refl)
    ∙ ap (drop (length (rows f a))) (rows_split f a m)
    ∙ drop_at (rows f a) (rows (λ i. f (a + i)) m) (length (rows f a)) refl
