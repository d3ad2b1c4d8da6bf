-- Items at the front of an array of m places, and zeros after them: what a piece that fits makes of it. Assumes nothing.
use Prim.Native.Nat.{ℕ, ◌+◌, ◌-◌, ◌≤◌}
use mathlib.Core.Path.{◌≡◌, sym}
use mathlib.Core.List.{List, ◌++◌, append_assoc}
use native.Mathlib.Omega.{arith}
use lib.ListN.{length, take, replicate, length-append, length-replicate}
use lib.Seq.{sets, sets-eq, take_at, take-append_seam, drop-append-add}
use Rattle.text.specs.Held.{Held}
use Rattle.text.proofs.Spelling.{drop_replicate}

-- a piece stored over the zeros after t stands after t, and zeros after both
stored_after : (m : ℕ) (t s : List ℕ) → length t + length s ≤ m
    → sets (t ++ replicate (m - length t) 0) (length t) s ≡ (t ++ s) ++ replicate (m - length (t ++ s)) 0
stored_after m t s h =
    let z : List ℕ = replicate (m - length t) 0 in
    let room : length t + length s ≤ length (t ++ z) = simp (length-append, length-replicate) (omega arith) in
    let e : m - length t - length s ≡ m - (length t + length s) = omega arith in
    rw (sets-eq s (t ++ z) (length t) room, take-append_seam t z, drop-append-add t z (length s), drop_replicate (length s) (m - length t) 0 (omega arith), e, length-append t s, append_assoc t s)

-- a text that fits, with zeros after it, is held
pub held_text : (m : ℕ) (t places : List ℕ) (count : ℕ) → length t ≤ m → count ≡ length t → places ≡ t ++ replicate (m - length t) 0
    → Held m places count × (take count places ≡ t)
held_text m t places count h k e =
    let f : take count places ≡ t = rw e (take_at t _ count (sym k)) in
    (record { fits = omega arith; zeros = rw f (sym e); counted = rw f (sym k) }, f)

-- a piece s that fits comes after the items t
pub held_more : (m : ℕ) (places : List ℕ) (count : ℕ) (t s after : List ℕ) → Held m places count → take count places ≡ t
    → length t + length s ≤ m → after ≡ sets places count s → Held m after (count + length s) × (take (count + length s) after ≡ t ++ s)
held_more m places count t s after i v h e =
    let p : t ++ replicate (m - length t) 0 ≡ places = rw v at i.zeros in
    let k : length t ≡ count = rw v at i.counted in
    held_text m (t ++ s) after (count + length s) (simp length-append (omega arith)) (rw (length-append, k)) (rw (e, ← p, ← k) (stored_after m t s h))
