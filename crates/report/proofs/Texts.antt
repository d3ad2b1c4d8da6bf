-- Lines stored one after the other, and those of the probes. Assumes nothing.
use mathlib.Core.List.{List, [], ◌++◌, append-nil, append_assoc}
use mathlib.Core.Path.{◌≡◌, refl, sym, ap, ◌∙◌}
use Prim.Native.Nat.{ℕ, zero, suc, ◌+◌, ◌-◌, ◌*◌, ◌≤◌, ◌<◌}
use native.Mathlib.Nat.{mul-suc}
use native.Mathlib.Omega.{arith}
use lib.Dec.{eqb}
use lib.Ieee.{Float}
use lib.ListN.{length, take, drop, length-append, drop_of_length-le}
use lib.Seq.{sets, sets-eq, length-sets, drop-drop, take-length}
use borrow.Rule.Slice.PartMut.{put_mid}
use Rattle.std.proofs.lemmas.List.{length-drop}
use Rattle.vector.specs.Flat.{rows, filled, written}
use Rattle.vector.proofs.Replaced.{rows_same, at_filled, at_written}
use Rattle.vector.proofs.Stored.{sets_front, sets_front_append, sets_part}
use Rattle.surfel.specs.Answers.{seen_number, seen_light}
use Rattle.surfel.specs.declared.Reading.{Reading}
use Rattle.surfel.specs.declared.Reading.TheVariants.{Seen, Unseen}
use Rattle.lines.specs.Lines.{probed_line}
use Rattle.lines.proofs.Widths.{probed_width}
use Rattle.report.specs.Needs.{seen_in}
use mathlib.Core.Bool.{cond}
use Rattle.std.specs.Prelude.{Some, None}
use Rattle.report.specs.Report.{reading_line}

-- ---- lines after others

-- what is stored at the front of all that lies from a place on, is stored from that place on
tail_stored : (t x : List ℕ) (at k : ℕ) {s : List ℕ} → k ≡ length t - at → at + length x ≤ length t → s ≡ sets (take k (drop at t)) 0 x → put_mid at k t s ≡ sets t at x
tail_stored t x at k {s} e h p =
    let l : length (drop at t) ≡ k = length-drop at t ∙ sym e in
    let whole : take k (drop at t) ≡ drop at t = rw (← l) (take-length (drop at t)) in
    let stored : s ≡ x ++ drop (length x) (drop at t) = p ∙ rw whole (sets_front (drop at t) x (omega (arith, l))) in
    let n : length s ≡ k = ap length p ∙ simp length-sets (ap length whole ∙ l) in
    let nil : drop (at + length s) t ≡ [] = drop_of_length-le t {i = at + length s} (omega arith) in
    sets_part t s at k n (omega arith)
    ∙ sets-eq s t at (omega arith)
    ∙ rw (nil, append-nil, stored, drop-drop, ← append_assoc) (sym (sets-eq x t at h))

-- d has x stored at the front, and what lies behind it then has t stored at its front
pub more_stored : (text x t : List ℕ) {d s : List ℕ} {k r : ℕ}
    → d ≡ sets text 0 x → k ≡ length x → length x + length t ≤ length text → s ≡ sets (take (length d - k) (drop k d)) 0 t → r ≡ length t
    → (put_mid k (length d - k) d s ≡ sets text 0 (x ++ t)) × (k + r ≡ length (x ++ t))
more_stored text x t {d} {s} {k} p f h q u =
    let n : length d ≡ length text = ap length p ∙ simp length-sets in
    (tail_stored d t k (length d - k) refl (omega arith) q ∙ rw (p, f) (sym (sets_front_append text x t)), rw length-append (omega arith))

-- ---- the lines of the probes

-- the line of probe i, by what was written of the readings
abbrev pub line_at : List ℕ → List Float → ℕ → List ℕ
line_at seen light i = probed_line i (seen_in seen light i)

-- rows of at most w elements
pub rows_within : {A : Type 0} (f : ℕ → List A) (w n : ℕ) → ((i : ℕ) → i < n → length (f i) ≤ w) → length (rows f n) ≤ w * n
unfolding rows
rows_within f w zero h = omega arith
rows_within f w (suc n) h =
    rw (length-append, mul-suc) (omega (arith, rows_within f w n (λ i k. h i (omega arith)), h n (omega arith)))

-- n lines take at most 45 bytes each
pub lines_within : (seen : List ℕ) (light : List Float) (n : ℕ) → n ≤ 9999 → length (rows (line_at seen light) n) ≤ 45 * n
lines_within seen light n h = rows_within (line_at seen light) 45 n (λ i k. probed_width i (seen_in seen light i) (omega arith))

-- what is written of a reading gives its line
pub reading_line_lem : (i : ℕ) (r : Reading) → probed_line i (cond (eqb (seen_number r) 1) (Some (seen_light r)) None) ≡ reading_line i r
reading_line_lem i (Seen light) = refl
reading_line_lem i Unseen = refl

-- where the readings were written, the lines are those of the readings
pub lines_read : (f : ℕ → Reading) (n : ℕ) (s : List ℕ) (l : List Float) {seen : List ℕ} {light : List Float}
    → seen ≡ filled (λ i. seen_number (f i)) n s → light ≡ written (λ i. seen_light (f i)) n l
    → rows (line_at seen light) n ≡ rows (λ i. reading_line i (f i)) n
lines_read f n s l p q =
    rows_same _ _ n (λ i h. rw (p, q, at_filled (λ i. seen_number (f i)) n i s 0 h, at_written (λ i. seen_light (f i)) n i l h) (reading_line_lem i (f i)))
