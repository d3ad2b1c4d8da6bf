-- Document 01, 'Refused calls', 2, 4 and 7: counts within limits, slices that are long enough, and numbers that fit together. Definitions only.
use Rattle.std.specs.Prelude.{Bool, ◌&&◌, List, [], ◌∷◌, ℕ, zero, suc, ◌+◌, ◌*◌, ◌-◌, leb, ltb, eqb, length, get_or}
use Rattle.accept.specs.Every.{every, conj}

-- a count within its limit
abbrev pub at_most : ℕ → ℕ → Bool
at_most n limit = leb n limit

-- a slice of length len holds n entries of `each` places
unfoldable pub holds : ℕ → ℕ → ℕ → Bool
holds len n each = leb (n * each) len

-- a list holds n vectors, three floats each
abbrev pub column : {A : Type 0} → List A → ℕ → Bool
column l n = holds (length l) n 3

-- each of the first n numbers is below bound
unfoldable pub all_below : (ℕ → ℕ) → ℕ → ℕ → Bool
all_below f n bound = every (λ k. ltb (f k) bound) n

-- starts 0 to n begin at 0, never fall and end at `end`
unfoldable pub monotone : (ℕ → ℕ) → ℕ → ℕ → Bool
monotone starts n end = conj (eqb (starts 0) 0 ∷ every (λ i. leb (starts i) (starts (i + 1))) n ∷ eqb (starts n) end ∷ [])

-- the numbers from place a up to place b strictly ascend
unfoldable pub ascends : (ℕ → ℕ) → ℕ → ℕ → Bool
ascends f a b = every (λ j. ltb (f (a + j)) (f (a + j + 1))) (b - a - 1)

-- the links of each of n rows strictly ascend; row i has those from start i up to start i + 1
unfoldable pub all_ascend : (ℕ → ℕ) → (ℕ → ℕ) → ℕ → Bool
all_ascend starts links n = every (λ i. ascends links (starts i) (starts (i + 1))) n

-- where range c has to begin: where the one before it ended, the first at 0
abbrev pub edge : (ℕ → ℕ) → (ℕ → ℕ) → ℕ → ℕ
edge firsts counts zero = 0
edge firsts counts (suc c) = firsts c + counts c

-- n ranges follow one another from 0, and the last ends at `end`
unfoldable pub contiguous : (ℕ → ℕ) → (ℕ → ℕ) → ℕ → ℕ → Bool
contiguous firsts counts n end = every (λ c. eqb (firsts c) (edge firsts counts c)) n && eqb (edge firsts counts n) end

-- number k of a list
abbrev pub number_at : List ℕ → ℕ → ℕ
number_at l k = get_or l k 0

-- a list has n numbers or more, the first n below bound
abbrev pub numbers_below : List ℕ → ℕ → ℕ → Bool
numbers_below l n bound = leb n (length l) && all_below (number_at l) n bound

-- a list has n + 1 starts or more, and the first n + 1 begin at 0, never fall and end at `end`
abbrev pub starts_monotone : List ℕ → ℕ → ℕ → Bool
starts_monotone starts n end = ltb n (length starts) && monotone (number_at starts) n end

-- the starts of n rows rise from 0 to count, the list of links has so many, and the links of each row strictly ascend
abbrev pub links_ascend : List ℕ → ℕ → List ℕ → ℕ → Bool
links_ascend starts n links count =
    conj (starts_monotone starts n count ∷ leb count (length links) ∷ all_ascend (number_at starts) (number_at links) n ∷ [])

-- the lists have n ranges or more, the first n contiguous from 0 to `end`
abbrev pub ranges_contiguous : List ℕ → List ℕ → ℕ → ℕ → Bool
ranges_contiguous firsts counts n end =
    conj (leb n (length firsts) ∷ leb n (length counts) ∷ contiguous (number_at firsts) (number_at counts) n end ∷ [])
