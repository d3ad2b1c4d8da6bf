-- Groups of numbers stored one after the other: where each begins, how many numbers it has, and the numbers. Assumes nothing.
use mathlib.Core.List.{List, [], ◌∷◌, ◌++◌, append_assoc, append-nil}
use mathlib.Core.Logic.{inl, inr}
use mathlib.Core.Path.{◌≡◌, refl, sym, ap, ◌∙◌}
use Prim.Native.Nat.{ℕ, zero, suc, ◌+◌, ◌-◌, ◌≤◌, ◌<◌}
use borrow.Rule.Slice.PartMut.{put_mid}
use Rattle.std.proofs.lemmas.List.{drop-take}
use native.Mathlib.Nat.{eq-or-lt_of_le}
use native.Mathlib.Numerals.{add-one}
use native.Mathlib.Omega.{arith}
use lib.ListN.{length, set, take, drop, length-append, get_or-append}
use lib.Seq.{drop-drop, slice, sets, sets-eq, get_or_at, take_at, drop_at}
use Rattle.vector.specs.Flat.{rows, filled}
use Rattle.vector.proofs.Replaced.{filled_none, filled_put, rows_same, at_filled}
use Rattle.accept.specs.Tables.{number_at}
use Rattle.order.proofs.Filled.{filled_same}
use Rattle.clusters.specs.Grouping.{group_at, group_start}
use Rattle.clusters.specs.Needs.{first_left, count_left, member_left, members_at}
use Rattle.vector.proofs.Stored.{sets_append}

-- a part of a list, as a loop is lent it
pub part_is : {A : Type 0} (l : List A) (a e : ℕ) → a ≤ e → take (e - a) (drop a l) ≡ slice a e l
part_is l a e h =
    let f : a + (e - a) ≡ e = omega arith in
    sym (drop-take a (e - a) l) ∙ ap (λ (k : ℕ). drop a (take k l)) f

-- and one that n numbers were copied over
pub put_part : {A : Type 0} (l xs : List A) (w n : ℕ) → length xs ≡ n → w + n ≤ length l → put_mid w (w + n - w) l xs ≡ sets l w xs
put_part l xs w n k h =
    let e : w + n - w ≡ length xs = omega arith in
    rw (e, drop-drop (length xs) w l) (sym (sets-eq xs l w (omega (arith, k)) ∙ append_assoc (take w l) xs (drop (w + length xs) l)))

-- all members of groups, one group after the other
abbrev pub joined : List (List ℕ) → List ℕ
joined gs = rows (group_at gs) (length gs)

-- no groups
pub joined_none : joined [] ≡ []
unfolding rows
joined_none = refl

pub first_none : (l : List ℕ) → l ≡ first_left [] l
first_none l = filled_none (group_start []) l

pub count_none : (l : List ℕ) → l ≡ count_left [] l
count_none l = filled_none (λ k. length (group_at [] k)) l

pub member_none : (l : List ℕ) → l ≡ member_left [] l
unfolding rows
member_none l = refl

-- one group more
module _ (gs : List (List ℕ)) (g : List ℕ) where
  abbrev more : List (List ℕ)
  more = gs ++ (g ∷ [])

  more-length : length more ≡ length gs + 1
  more-length = length-append gs (g ∷ [])

  before_at : (k : ℕ) → k < length gs → group_at more k ≡ group_at gs k
  before_at k h = get_or-append gs (g ∷ []) [] k h

  more_at : group_at more (length gs) ≡ g
  more_at = get_or_at gs g [] [] (length gs) refl

  before_rows : (k : ℕ) → k ≤ length gs → rows (group_at more) k ≡ rows (group_at gs) k
  before_rows k h = rows_same (group_at more) (group_at gs) k (λ i l. before_at i (omega arith))

  pub joined_more : joined more ≡ joined gs ++ g
  unfolding rows
  joined_more = rw (more-length, add-one (length gs), before_rows (length gs) (omega arith), more_at)

  -- the three lists with one group more
  pub first_more : (l : List ℕ) {d e : List ℕ} {k x : ℕ} → length gs < length l → d ≡ first_left gs l → k ≡ length gs → x ≡ length (joined gs) → e ≡ set d k x → e ≡ first_left more l
  first_more l h p i q r =
      let same : filled (group_start gs) (length gs) l ≡ filled (group_start more) (length gs) l =
      filled_same (group_start gs) (group_start more) (length gs) l (omega arith) (λ c w. ap (length {A = ℕ}) (sym (before_rows c (omega arith)))) in
      filled_put (group_start more) (length gs) l (p ∙ same) h (q ∙ ap (length {A = ℕ}) (sym (before_rows (length gs) (omega arith)))) (r ∙ rw i)
      ∙ rw (sym more-length)

  pub count_more : (l : List ℕ) {d e : List ℕ} {k x : ℕ} → length gs < length l → d ≡ count_left gs l → k ≡ length gs → x ≡ length g → e ≡ set d k x → e ≡ count_left more l
  count_more l h p i q r =
      let same : filled (λ c. length (group_at gs c)) (length gs) l ≡ filled (λ c. length (group_at more c)) (length gs) l =
      filled_same (λ c. length (group_at gs c)) (λ c. length (group_at more c)) (length gs) l (omega arith) (λ c w. ap (length {A = ℕ}) (sym (before_at c w))) in
      filled_put (λ c. length (group_at more c)) (length gs) l (p ∙ same) h (q ∙ ap (length {A = ℕ}) (sym more_at)) (r ∙ rw i)
      ∙ rw (sym more-length)

  pub member_more : (l : List ℕ) {d e : List ℕ} {w : ℕ} → d ≡ member_left gs l → w ≡ length (joined gs) → e ≡ sets d w g → e ≡ member_left more l
  member_more l {w = w} p q r =
      let e : w ≡ 0 + length (joined gs) = omega (arith, q) in
      r ∙ rw (p, e, joined_more) (sym (sets_append l 0 (joined gs) g))

-- row k of rows that follow one another
rows_split : {A : Type 0} (f : ℕ → List A) (k m : ℕ) → k < m → (rest : List A) × (rows f m ≡ (rows f k ++ f k) ++ rest)
unfolding rows
rows_split f k zero h = absurd (omega arith)
rows_split f k (suc m) h =
    elim (eq-or-lt_of_le {n = k} {m = m} (omega arith)) [
      | inl e ↦ ([], rw (e, append-nil))
      | inr l ↦ let (rest, r) = rows_split f k m l in (rest ++ f m, rw (r, append_assoc))
    ]

-- the groups that were stored, read again
module _ (gs : List (List ℕ)) (first count members : List ℕ) (room : length (joined gs) ≤ length members) (k : ℕ) (h : k < length gs) where
  pub first_at : number_at (first_left gs first) k ≡ group_start gs k
  first_at = at_filled (group_start gs) (length gs) k first 0 h

  pub count_at : number_at (count_left gs count) k ≡ length (group_at gs k)
  count_at = at_filled (λ c. length (group_at gs c)) (length gs) k count 0 h

  -- group k stands where the lists say
  pub group_stored : slice (group_start gs k) (group_start gs k + length (group_at gs k)) (member_left gs members) ≡ group_at gs k
  group_stored =
      let (rest, r) = rows_split (group_at gs) k (length gs) h in
      let a = rows (group_at gs) k in
      let b = group_at gs k in
      let l = rest ++ drop (0 + length (joined gs)) members in
      let e : member_left gs members ≡ (a ++ b) ++ l = sets-eq (joined gs) members 0 (omega arith) ∙ rw (r, append_assoc) in
      rw (e, take_at (a ++ b) l (length a + length b) (length-append a b)) (drop_at a b (length a) refl)

  pub members_at_lem : members_at (first_left gs first) (count_left gs count) (member_left gs members) k ≡ group_at gs k
  members_at_lem = rw (first_at, count_at) group_stored

  pub group_ends : group_start gs k + length (group_at gs k) ≤ length (joined gs)
  group_ends = let (rest, r) = rows_split (group_at gs) k (length gs) h in rw (r, length-append, length-append) (omega arith)
