-- The columns of a room file as lists: how long they are, what stands where, and a column that lies in its file. Assumes nothing.
use mathlib.Core.Bool.{Bool, true, false, cond, ◌&&◌, and-eq-true_iff}
use mathlib.Core.List.{List, [], ◌∷◌, ◌++◌, append-nil}
use mathlib.Core.Path.{◌≡◌, refl, sym, ap, subst, ◌∙◌}
use Prim.Native.Nat.{ℕ, suc, ◌+◌, ◌*◌, ◌≤◌, ◌<◌}
use native.Mathlib.Nat.{mul-suc, mul_comm, mul-le-mul, mul-le-mul_left}
use native.Mathlib.Numerals.{add-one}
use native.Mathlib.Omega.{arith}
use lib.Dec.{leb}
use lib.Ieee.{Float, nan}
use lib.ListN.{length, get_or, set, drop, drop_of_length-le}
use lib.Seq.{sets, get_or-drop, get_or-take}
use borrow.Author.Tests.{leb-true, lt-leb, le-leb}
use Rattle.float.specs.Column.{float_at}
use Rattle.vector.specs.Flat.{rows, replaced}
use Rattle.vector.proofs.Replaced.{length_rows, replaced_none, replaced_more, row_written, at_filled}
use Rattle.vector.proofs.Stored.{rows_stored}
use Rattle.accept.specs.Every.{every, conj}
use Rattle.accept.specs.Limits.{max_file}
use Rattle.accept.specs.Ranges.{within, all_within, floats_within}
use Rattle.accept.specs.Tables.{number_at, holds}
use Rattle.accept.proofs.Bounded.{le_holds}
use Rattle.accept.proofs.Every.{every_same, every_product, conj_each}
use Rattle.file.specs.declared.Column.{Column}
use Rattle.file.specs.declared.Counts.{Counts}
use Rattle.file.specs.Words.{words, word_in, float_in}
use Rattle.file.specs.Blocks.{counts_in}
use Rattle.file.specs.Columns.{entry_from, entry_floats, numbers_over, floats_over, numbers_of, floats_of, inside, numbers_read, floats_read}
use Rattle.file.specs.Needs.{Inside, put_front}
use Rattle.std.specs.Prelude.{Some, None}

-- ---- rows

-- rows over a list that is no longer than they are, are the rows alone
rows_alone : {A : Type 0} (w : ℕ) (row : ℕ → List A) (n : ℕ) (l : List A) → length l ≤ w * n → replaced w row n l ≡ rows row n
unfolding replaced
rows_alone w row n l h = rw (drop_of_length-le l {i = w * n} h) (append-nil (rows row n))

-- n single elements are n places
pub single_length : {A : Type 0} (g : ℕ → A) (n : ℕ) → length (rows (λ i. g i ∷ []) n) ≡ n
single_length g n = let h = length_rows 1 (λ i. g i ∷ []) (λ i. refl) n in omega arith

-- and element j of them stands at place j
single_at : {A : Type 0} (g : ℕ → A) (n j : ℕ) (d : A) → j < n → get_or (rows (λ i. g i ∷ []) n) j d ≡ g j
single_at {A} g n j d h = ap (λ (l : List A). get_or l j d) (sym (rows_alone 1 (λ i. g i ∷ []) n [] (omega arith))) ∙ at_filled g n j [] d h

-- an entry of w places, before the last, ends where the next begins
pub next_entry : (w i n : ℕ) → i < n → w * i + w ≤ w * n
next_entry w i n h = omega (arith, mul-suc w i, mul-le-mul_left {m = suc i} {n = n} w h)

-- ---- the lists of a column

-- d has n single elements stored from place i on, and e has the next stored after them
pub single_stored : {A : Type 0} (g : ℕ → A) (n i : ℕ) (l : List A) {d e : List A} {x : A}
    → d ≡ sets l i (rows (λ k. g k ∷ []) n) → x ≡ g n → e ≡ set d (i + n) x → e ≡ sets l i (rows (λ k. g k ∷ []) (n + 1))
single_stored g n i l {d} {e} p q r = (rows_stored (λ k. g k ∷ []) n i l {d = d} {e = e} {k = i + n} p (rw (single_length g n)) (rw (r, q))).0

module _ (b : List ℕ) (col : Column) where
  entry_length : (i : ℕ) → length (entry_floats b col i) ≡ col.width
  entry_length i = single_length (λ j. float_in b (entry_from col i + j)) col.width

  pub floats_length : length (floats_of b col) ≡ col.width * col.count
  unfolding floats_of
  floats_length =
      ap length (rows_alone col.width (entry_floats b col) col.count [] (omega arith))
      ∙ length_rows col.width (entry_floats b col) entry_length col.count

  pub numbers_length : length (numbers_of b col) ≡ col.count
  unfolding numbers_of
  numbers_length =
      ap length (rows_alone 1 (λ i. word_in b (entry_from col i) ∷ []) col.count [] (omega arith))
      ∙ single_length (λ i. word_in b (entry_from col i)) col.count

  -- read into a list of its length, a column is all of it
  pub floats_exact : (l : List Float) → length l ≡ col.width * col.count → floats_over b col l ≡ floats_of b col
  unfolding floats_of
  floats_exact l h =
      rows_alone col.width (entry_floats b col) col.count l (omega arith)
      ∙ sym (rows_alone col.width (entry_floats b col) col.count [] (omega arith))

  pub numbers_exact : (l : List ℕ) → length l ≡ col.count → numbers_over b col l ≡ numbers_of b col
  unfolding numbers_of
  numbers_exact l h =
      rows_alone 1 (λ i. word_in b (entry_from col i) ∷ []) col.count l (omega arith)
      ∙ sym (rows_alone 1 (λ i. word_in b (entry_from col i) ∷ []) col.count [] (omega arith))

  -- the floats of i entries in the front of a list, and one entry more
  pub floats_none : (l : List Float) → l ≡ replaced col.width (entry_floats b col) 0 l
  floats_none = replaced_none col.width (entry_floats b col) entry_length

  pub floats_more : (i : ℕ) (l : List Float) {d e : List Float} → d ≡ replaced col.width (entry_floats b col) i l → col.width * i + col.width ≤ length l
      → e ≡ sets d (col.width * i) (entry_floats b col i) → e ≡ replaced col.width (entry_floats b col) (i + 1) l
  floats_more i l p h q = rw (q, p, add-one i) (replaced_more col.width (entry_floats b col) entry_length i l h)

  -- and it is put in front of a list of any length
  pub floats_put : (l : List Float) → floats_of b col ++ drop (length (floats_of b col)) l ≡ floats_over b col l
  unfolding floats_of replaced
  floats_put l =
      rw (floats_length, rows_alone col.width (entry_floats b col) col.count [] (omega arith))

  pub numbers_put : (l : List ℕ) → numbers_of b col ++ drop (length (numbers_of b col)) l ≡ numbers_over b col l
  unfolding numbers_of replaced
  numbers_put l =
      let one : 1 * col.count ≡ col.count = omega arith in
      rw (numbers_length, rows_alone 1 (λ i. word_in b (entry_from col i) ∷ []) col.count [] (omega arith), one)

  -- float j of entry i
  pub float_at_lem : (i j : ℕ) → i < col.count → j < col.width → float_at (floats_of b col) (col.width * i + j) ≡ float_in b (entry_from col i + j)
  unfolding floats_of
  float_at_lem i j h k =
      sym (get_or-drop (col.width * i) (floats_over b col []) j nan)
      ∙ sym (get_or-take col.width (drop (col.width * i) (floats_over b col [])) j nan k)
      ∙ ap (λ (l : List Float). float_at l j) (row_written col.width (entry_floats b col) entry_length col.count i [] h)
      ∙ single_at (λ m. float_in b (entry_from col i + m)) col.width j nan k

  -- number i
  pub number_at_lem : (i : ℕ) → i < col.count → number_at (numbers_of b col) i ≡ word_in b (entry_from col i)
  unfolding numbers_of
  number_at_lem i h = at_filled (λ k. word_in b (entry_from col k)) col.count i [] 0 h

  -- ---- a column that lies in its file

  -- the tests of a column but the last, which is made where the sum in it is not too large
  abbrev pub near_tests : List Bool
  near_tests = leb (length b) max_file ∷ leb 1 col.width ∷ leb col.width col.step ∷ leb col.step 16 ∷ leb col.count (words b) ∷ []

  pub record Near : Type 0 where
    pub long : length b ≤ max_file
    pub some : 1 ≤ col.width
    pub narrow : col.width ≤ col.step
    pub step_few : col.step ≤ 16
    pub count_few : col.count ≤ words b
    pub product : col.step * col.count ≤ 16 * words b

  pub is_near : conj near_tests ≡ true → Near
  is_near e =
      let h = conj_each near_tests e in
      let p : col.step ≤ 16 = leb-true _ _ h.1.1.1.0 in
      let q : col.count ≤ words b = leb-true _ _ h.1.1.1.1.0 in
      record {
        long = leb-true _ _ h.0;
        some = leb-true _ _ h.1.0;
        narrow = leb-true _ _ h.1.1.0;
        step_few = p;
        count_few = q;
        product = mul-le-mul p q;
      }

  -- a column that begins behind the file does not lie in it
  pub far_outside : conj near_tests ≡ true → words b + 16 < col.from → false ≡ inside b col
  unfolding inside
  far_outside e h = let n = is_near e in rw (e, lt-leb (col.from + col.step * col.count + col.width) (words b + col.step) (omega arith))

  -- one that was found to lie in its file does
  pub is_inside : inside b col ≡ true → Inside b col
  unfolding inside
  is_inside e =
      let both = (and-eq-true_iff (conj near_tests) (leb (col.from + col.step * col.count + col.width) (words b + col.step))).0 e in
      let n = is_near both.0 in
      let end : col.from + col.step * col.count + col.width ≤ words b + col.step = leb-true _ _ both.1 in
      record {
        few = omega arith;
        some = n.some;
        width_few = omega arith;
        count_few = n.count_few;
        each = λ i k. let m = next_entry col.step i col.count k in omega arith;
      }

-- ---- tests of all floats of a column, entry by entry

-- the floats of a column are in their range where those of each entry are
pub column_within : (b : List ℕ) (col : Column) (lo hi : Float)
    → floats_within (floats_of b col) col.count col.width lo hi ≡ every (λ i. all_within (λ j. float_in b (entry_from col i + j)) col.width lo hi) col.count
unfolding all_within
column_within b col lo hi =
    let l = floats_of b col in
    let n = floats_length b col in
    let m = mul_comm col.width col.count in
    rw (le_holds (length l) col.count col.width (omega arith))
    (every_product (λ k. within (float_at l k) lo hi) col.count col.width
    ∙ every_same _ _ col.count (λ i h. every_same _ _ col.width (λ j k. rw (float_at_lem b col i j h k))))

-- ---- a column that was read

-- a column that was found, stored in front of a list, is the column read into it
pub floats_stored : (b : List ℕ) (col : Column) (l : List Float) → floats_read b col l ≡ put_front (cond (inside b col) (Some (floats_of b col)) None) l
unfolding floats_read holds
floats_stored b col l = by (inside b col)
  where
    by : (t : Bool) → cond (t && holds (length l) col.count col.width) (floats_over b col l) l ≡ put_front (cond t (Some (floats_of b col)) None) l
    by true = rw (floats_put b col l, floats_length b col, mul_comm col.width col.count)
    by false = refl

pub numbers_stored : (b : List ℕ) (col : Column) (l : List ℕ) → numbers_read b col l ≡ put_front (cond (inside b col) (Some (numbers_of b col)) None) l
unfolding numbers_read
numbers_stored b col l = by (inside b col)
  where
    by : (t : Bool) → cond (t && leb col.count (length l)) (numbers_over b col l) l ≡ put_front (cond t (Some (numbers_of b col)) None) l
    by true = rw (numbers_put b col l, numbers_length b col)
    by false = refl

-- a file that has the column, read into a list that holds it
pub read_floats : (b : List ℕ) (col : Column) (l : List Float) → inside b col ≡ true → holds (length l) col.count col.width ≡ true
    → floats_read b col l ≡ floats_over b col l
unfolding floats_read
read_floats b col l h k = rw (h, k)

pub read_numbers : (b : List ℕ) (col : Column) (l : List ℕ) → inside b col ≡ true → leb col.count (length l) ≡ true → numbers_read b col l ≡ numbers_over b col l
unfolding numbers_read
read_numbers b col l h k = rw (h, k)

-- into a list of its length: the column alone
pub read_floats_exact : (b : List ℕ) (col : Column) (l : List Float) → inside b col ≡ true → length l ≡ col.width * col.count → floats_read b col l ≡ floats_of b col
read_floats_exact b col l h k =
    read_floats b col l h (le_holds (length l) col.count col.width (omega (arith, mul_comm col.width col.count))) ∙ floats_exact b col l k

pub read_numbers_exact : (b : List ℕ) (col : Column) (l : List ℕ) → inside b col ≡ true → length l ≡ col.count → numbers_read b col l ≡ numbers_of b col
read_numbers_exact b col l h k = read_numbers b col l h (le-leb col.count (length l) (omega arith)) ∙ numbers_exact b col l k

-- into a list of its length, by the counts that were handed
pub floats_in : (b : List ℕ) {c : Counts} (col : Counts → Column) (l : List Float) {m : List Float} → c ≡ counts_in b → inside b (col (counts_in b)) ≡ true
    → length l ≡ (col c).width * (col c).count → m ≡ floats_read b (col c) l → m ≡ floats_of b (col (counts_in b))
floats_in b col l e h k p =
    p
    ∙ ap (λ (x : Counts). floats_read b (col x) l) e
    ∙ read_floats_exact b (col (counts_in b)) l h (subst (λ (x : Counts). length l ≡ (col x).width * (col x).count) e k)

pub numbers_in : (b : List ℕ) {c : Counts} (col : Counts → Column) (l : List ℕ) {m : List ℕ} → c ≡ counts_in b → inside b (col (counts_in b)) ≡ true
    → length l ≡ (col c).count → m ≡ numbers_read b (col c) l → m ≡ numbers_of b (col (counts_in b))
numbers_in b col l e h k p =
    p
    ∙ ap (λ (x : Counts). numbers_read b (col x) l) e
    ∙ read_numbers_exact b (col (counts_in b)) l h (subst (λ (x : Counts). length l ≡ (col x).count) e k)
