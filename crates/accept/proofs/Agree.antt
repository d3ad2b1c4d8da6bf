-- A check reads only the places of its need: lists cut to their need have the same check. Assumes nothing.
use mathlib.Core.Bool.{Bool, true, false, ◌&&◌, and-eq-true_iff}
use mathlib.Core.List.{List}
use mathlib.Core.Path.{◌≡◌, refl}
use Prim.Native.Nat.{ℕ, zero, suc, ◌+◌, ◌*◌, ◌-◌, ◌≤◌, ◌<◌}
use native.Mathlib.Omega.{arith}
use lib.Dec.{leb, ltb, eqb}
use lib.Ieee.{Float, nan}
use lib.ListN.{length, take, length-take}
use lib.Seq.{get_or-take}
use Rattle.float.specs.Column.{float_at}
use Rattle.accept.specs.Tables.{holds, all_below, monotone, ascends, all_ascend, edge, contiguous, number_at, numbers_below, starts_monotone, links_ascend, ranges_contiguous}
use Rattle.accept.specs.Ranges.{within, all_within, floats_within}
use Rattle.accept.proofs.Every.{every_same}
use Rattle.accept.proofs.Bounded.{same_test}
use Rattle.accept.proofs.Starts.{Monotone, starts_monotone_lem}

-- a second test counts only where the first passed
and_same : (a b c : Bool) → (a ≡ true → b ≡ c) → (a && b) ≡ (a && c)
and_same true b c h = h refl
and_same false b c h = refl

-- number k of a list cut past it
pub number_cut : (n : ℕ) (l : List ℕ) (k : ℕ) → k < n → number_at (take n l) k ≡ number_at l k
number_cut n l k h = get_or-take n l k 0 h

-- whether a list has n places, of it cut to m of them
pub length_cut : {A : Type 0} (n m : ℕ) (l : List A) → n ≤ m → leb n (length (take m l)) ≡ leb n (length l)
length_cut n m l h =
    let e = length-take m l in
    same_test n (length (take m l)) n (length l) _ _ refl refl (λ p. omega arith) (λ p. omega arith)

-- and whether it holds n entries
pub holds_cut : {A : Type 0} (n each m : ℕ) (l : List A) → n * each ≤ m → holds (length (take m l)) n each ≡ holds (length l) n each
unfolding holds
holds_cut n each m l h = length_cut (n * each) m l h

-- n entries in range
pub floats_within_cut : (l : List Float) (n each m : ℕ) (lo hi : Float) → n * each ≤ m → floats_within (take m l) n each lo hi ≡ floats_within l n each lo hi
unfolding all_within
floats_within_cut l n each m lo hi h =
    rw (holds_cut n each m l h, every_same (λ k. within (float_at (take m l) k) lo hi) (λ k. within (float_at l k) lo hi) (n * each) (λ k j. rw (get_or-take m l k nan (omega arith))))

-- n numbers below a bound
pub numbers_below_cut : (l : List ℕ) (n bound : ℕ) → numbers_below (take n l) n bound ≡ numbers_below l n bound
unfolding all_below
numbers_below_cut l n bound =
    rw (length_cut n n l (omega arith), every_same (λ k. ltb (number_at (take n l) k) bound) (λ k. ltb (number_at l k) bound) n (λ k j. rw (number_cut n l k j)))

-- starts that agree up to place n, which is read too
monotone_same : (f g : ℕ → ℕ) (n end : ℕ) → ((i : ℕ) → i < n + 1 → f i ≡ g i) → monotone f n end ≡ monotone g n end
unfolding monotone
monotone_same f g n end h =
    rw (h 0 (omega arith), h n (omega arith), every_same (λ i. leb (f i) (f (i + 1))) (λ i. leb (g i) (g (i + 1))) n (λ i k. rw (h i (omega arith), h (i + 1) (omega arith))))

-- n + 1 starts that rise to their end
pub starts_cut : (starts : List ℕ) (n end : ℕ) → starts_monotone (take (n + 1) starts) n end ≡ starts_monotone starts n end
starts_cut starts n end =
    rw (length_cut (suc n) (n + 1) starts (omega arith), monotone_same (number_at (take (n + 1) starts)) (number_at starts) n end (number_cut (n + 1) starts))

-- numbers that agree below place b
ascends_same : (f g : ℕ → ℕ) (a b : ℕ) → ((k : ℕ) → k < b → f k ≡ g k) → ascends f a b ≡ ascends g a b
unfolding ascends
ascends_same f g a b h =
    every_same (λ j. ltb (f (a + j)) (f (a + j + 1))) (λ j. ltb (g (a + j)) (g (a + j + 1))) (b - a - 1) (λ j k. rw (h (a + j) (omega arith), h (a + j + 1) (omega arith)))

-- the links of each row lie below the count, where the starts rise to it
all_ascend_cut : (starts : List ℕ) (n : ℕ) (links : List ℕ) (count : ℕ) → Monotone (number_at starts) n count
    → all_ascend (number_at (take (n + 1) starts)) (number_at (take count links)) n ≡ all_ascend (number_at starts) (number_at links) n
unfolding all_ascend
all_ascend_cut starts n links count s =
    every_same _ _ n
    (λ i k.
    let t = s.inside (i + 1) (omega arith) in
    rw (number_cut (n + 1) starts i (omega arith), number_cut (n + 1) starts (i + 1) (omega arith))
    (ascends_same (number_at (take count links)) (number_at links) (number_at starts i) (number_at starts (i + 1)) (λ j h. number_cut count links j (omega arith))))

-- rows of links that ascend
pub links_cut : (starts : List ℕ) (n : ℕ) (links : List ℕ) (count : ℕ) → links_ascend (take (n + 1) starts) n (take count links) count ≡ links_ascend starts n links count
links_cut starts n links count =
    rw (starts_cut starts n count, length_cut count count links (omega arith))
    (and_same (starts_monotone starts n count && leb count (length links)) _ _
    (λ e. all_ascend_cut starts n links count (starts_monotone_lem starts n count ((and-eq-true_iff (starts_monotone starts n count) (leb count (length links))).0 e).0).1))

-- where range c has to begin, of ranges that agree below n
edge_same : (f g firsts counts : ℕ → ℕ) (n : ℕ) → ((i : ℕ) → i < n → f i ≡ firsts i) → ((i : ℕ) → i < n → g i ≡ counts i)
    → (c : ℕ) → c ≤ n → edge f g c ≡ edge firsts counts c
edge_same f g firsts counts n p q zero h = refl
edge_same f g firsts counts n p q (suc c) h = rw (p c (omega arith), q c (omega arith))

-- ranges that agree below n
contiguous_same : (f g firsts counts : ℕ → ℕ) (n end : ℕ) → ((i : ℕ) → i < n → f i ≡ firsts i) → ((i : ℕ) → i < n → g i ≡ counts i)
    → contiguous f g n end ≡ contiguous firsts counts n end
unfolding contiguous
contiguous_same f g firsts counts n end p q =
    let e = edge_same f g firsts counts n p q in
    rw (e n (omega arith), every_same (λ c. eqb (f c) (edge f g c)) (λ c. eqb (firsts c) (edge firsts counts c)) n (λ c h. rw (p c h, e c (omega arith))))

-- ranges that follow one another
pub ranges_cut : (firsts counts : List ℕ) (n end : ℕ) → ranges_contiguous (take n firsts) (take n counts) n end ≡ ranges_contiguous firsts counts n end
ranges_cut firsts counts n end =
    rw (
      length_cut n n firsts (omega arith),
      length_cut n n counts (omega arith),
      contiguous_same (number_at (take n firsts)) (number_at (take n counts)) (number_at firsts) (number_at counts) n end (number_cut n firsts) (number_cut n counts),
    )
