-- The rows of a block, one after the other: which row is the next, what is left after it, and that they are all. Assumes nothing.
use mathlib.Core.Bool.{Bool, true, false, cond}
use mathlib.Core.List.{List, [], ◌∷◌, ◌++◌, append-nil}
use mathlib.Core.Logic.{⊎_elim}
use mathlib.Core.Path.{◌≡◌, refl, sym, ap, ◌∙◌}
use Prim.Native.Nat.{ℕ, zero, suc, ◌+◌, ◌-◌, ◌*◌, ◌≤◌, ◌<◌}
use native.Mathlib.Nat.{mul-suc, eq-or-lt_of_le, mul-le-mul_left}
use native.Mathlib.Numerals.{add-one}
use native.Mathlib.Omega.{arith}
use borrow.Author.Tests.{leb-true, leb-false}
use lib.Dec.{leb}
use lib.ListN.{length, get_or, take, drop, get_or-append, drop_of_length-le}
use Rattle.std.proofs.Math.Seq.{drop-cons}
use Rattle.std.proofs.lemmas.List.{get_or-append_right, drop-take}
use Rattle.std.proofs.lemmas.List.Folds.{concat-append}
use Rattle.std.specs.List.{concat}
use Rattle.std.specs.Prelude.{Result, Ok, Err}
use Rattle.vector.specs.Flat.{rows}
use Rattle.vector.proofs.Replaced.{length_rows, rows_same}
use Rattle.accept.specs.declared.refusal.Refusal.{Refusal}
use Rattle.accept.specs.declared.refusal.Refusal.TheVariants.{Length}
use Rattle.grid.specs.declared.Block.{Block}
use Rattle.grid.specs.Rows.{row_from, row_to, row_listed, rows_listed, rows_left, RowsLeft}
use Rattle.grid.proofs.Numbered.{row_major}

-- rows joined are what their parts join to
pub concat_rows : (f : ℕ → List (List ℕ)) (n : ℕ) → concat (rows f n) ≡ rows (λ i. concat (f i)) n
unfolding rows
concat_rows f zero = refl
concat_rows f (suc n) = rw (concat-append (rows f n) (f n), concat_rows f n)

-- lists of w elements each, one after the other: n of them
module _ {A : Type 0} (g : ℕ → ℕ → A) (w : ℕ) where
  abbrev line : ℕ → List A
  line z = rows (λ y. g z y ∷ []) w

  abbrev lines : ℕ → List A
  lines n = rows line n

  line_length : (z : ℕ) → length (line z) ≡ w
  line_length z = length_rows 1 (λ y. g z y ∷ []) (λ y. refl) w ∙ omega arith

  lines_length : (n : ℕ) → length (lines n) ≡ w * n
  lines_length n = length_rows w line line_length n

  -- element y of list z
  in_line : (z : ℕ) (m y : ℕ) (d : A) → y < m → get_or (rows (λ j. g z j ∷ []) m) y d ≡ g z y
  unfolding rows
  in_line z zero y d h = absurd (omega arith)
  in_line z (suc m) y d h =
      let e : length (rows (λ j. g z j ∷ []) m) ≡ m = length_rows 1 (λ j. g z j ∷ []) (λ j. refl) m ∙ omega arith in
      let last : y ≡ m → get_or (rows (λ j. g z j ∷ []) m ++ (g z m ∷ [])) y d ≡ g z y = λ q.
      let o : y - m ≡ 0 = omega arith in
      get_or-append_right (rows (λ j. g z j ∷ []) m) (g z m ∷ []) m y d e (omega arith) ∙ rw (o, q)
      in
      ⊎_elim last (λ k. get_or-append (rows (λ j. g z j ∷ []) m) (g z m ∷ []) d y (omega (arith, e)) ∙ in_line z m y d k) (eq-or-lt_of_le {n = y} {m = m} (omega arith))

  in_lines : (n z y : ℕ) (d : A) → z < n → y < w → get_or (lines n) (w * z + y) d ≡ g z y
  unfolding rows
  in_lines zero z y d h k = absurd (omega arith)
  in_lines (suc n) z y d h k =
      let last : z ≡ n → get_or (lines n ++ line n) (w * z + y) d ≡ g z y = λ q.
      let o : w * n + y - w * n ≡ y = omega arith in
      rw q (get_or-append_right (lines n) (line n) (w * n) (w * n + y) d (lines_length n) (omega arith) ∙ rw o (in_line n w y d k))
      in
      ⊎_elim last (λ m. get_or-append (lines n) (line n) d (w * z + y) (omega (arith, lines_length n, row_major y w z n k m)) ∙ in_lines n z y d m k) (eq-or-lt_of_le {n = z} {m = n} (omega arith))

  -- from element y of list z on, first comes that element
  pub lines_next : (n z y : ℕ) → z < n → y < w → drop (w * z + y) (lines n) ≡ g z y ∷ drop (w * z + y + 1) (lines n)
  lines_next n z y h k =
      let m = row_major y w z n k h in
      rw (add-one (w * z + y)) (drop-cons (lines n) (w * z + y) (g z y) (omega (arith, lines_length n, m)) ∙ rw (in_lines n z y (g z y) h k))

  -- and past the last list comes nothing
  pub lines_end : (n z y : ℕ) → n ≤ z → drop (w * z + y) (lines n) ≡ []
  lines_end n z y h = drop_of_length-le (lines n) (omega (arith, lines_length n, mul-le-mul_left {m = n} {n = z} w h))

module _ (starts items : List ℕ) (b : Block) where
  -- nothing is left past the last layer
  pub rows_done : (z y : ℕ) → b.layers ≤ z → rows_left starts items b z y ≡ []
  rows_done z y h = lines_end (row_listed starts items b) b.rows b.layers z y h

  -- the next row is cut out of items, and after it come the next of its layer, or where it was the last the next layer's
  module _ (z y : ℕ) (h : z < b.layers) (w : RowsLeft starts items b y) where
    row_cut : {from to : ℕ} → from ≡ row_from starts b y z → to ≡ row_to starts b y z → take (to - from) (drop from items) ≡ row_listed starts items b z y
    row_cut p q =
        let e : row_to starts b y z ≡ row_from starts b y z + (row_to starts b y z - row_from starts b y z) = omega (arith, w.held.rises y z w.next h) in
        rw (p, q) (sym (ap (λ (k : ℕ). drop (row_from starts b y z) (take k items)) e ∙ drop-take (row_from starts b y z) (row_to starts b y z - row_from starts b y z) items))

    pub row_next : {from to : ℕ} → from ≡ row_from starts b y z → to ≡ row_to starts b y z
        → rows_left starts items b z y ≡ take (to - from) (drop from items) ∷ rows_left starts items b z (y + 1)
    row_next p q =
        rw (row_cut p q) (lines_next (row_listed starts items b) b.rows b.layers z y h w.next
        ∙ ap (λ (k : ℕ). row_listed starts items b z y ∷ drop k (rows_listed starts items b)) (omega arith))

    pub layer_next : {from to : ℕ} → from ≡ row_from starts b y z → to ≡ row_to starts b y z → y + 1 ≡ b.rows
        → rows_left starts items b z y ≡ take (to - from) (drop from items) ∷ rows_left starts items b (z + 1) 0
    layer_next {from} {to} p q e =
        let k : b.rows * z + (y + 1) ≡ b.rows * (z + 1) + 0 = omega (arith, mul-suc b.rows z, add-one z) in
        rw k at (row_next p q)

  -- joined they are what the layers list
  pub rows_joined : concat (rows_listed starts items b) ≡ rows (λ z. rows (λ y. row_listed starts items b z y) b.rows) b.layers
  rows_joined =
      concat_rows (λ z. rows (λ y. row_listed starts items b z y ∷ []) b.rows) b.layers
      ∙ rows_same _ _ b.layers (λ z _. concat_rows (λ y. row_listed starts items b z y ∷ []) b.rows ∙ rows_same _ _ b.rows (λ y _. append-nil (row_listed starts items b z y)))

-- numbers that a list has no room for are refused, and others are not
pub room_short : (n room : ℕ) {refusal : Refusal} → ◌≡◌ {A = Result Unit Refusal} (cond (leb n room) (Ok tt) (Err Length)) (Err refusal) → (refusal ≡ Length) × (room < n)
room_short n room {refusal} e = by_room (leb n room) refl e
  where
    by_room : (b : Bool) → leb n room ≡ b → ◌≡◌ {A = Result Unit Refusal} (cond b (Ok tt) (Err Length)) (Err refusal) → (refusal ≡ Length) × (room < n)
    by_room true p e = absurd cc
    by_room false p e = (cc, leb-false _ _ p)

pub room_done : (n room : ℕ) {u : Unit} → ◌≡◌ {A = Result Unit Refusal} (cond (leb n room) (Ok tt) (Err Length)) (Ok u) → n ≤ room
room_done n room e = by_room (leb n room) refl e
  where
    by_room : (b : Bool) → leb n room ≡ b → ◌≡◌ {A = Result Unit Refusal} (cond b (Ok tt) (Err Length)) (Ok tt) → n ≤ room
    by_room true p e = leb-true _ _ p
    by_room false p e = absurd cc
