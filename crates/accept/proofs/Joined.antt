-- What ranges that are contiguous say of their numbers. Assumes nothing.
use mathlib.Core.Bool.{true, and-eq-true_iff}
use mathlib.Core.List.{List, [], ◌∷◌}
use mathlib.Core.Path.{◌≡◌, ◌∙◌}
use Prim.Native.Nat.{ℕ, ◌+◌, ◌≤◌, ◌<◌}
use native.Mathlib.Numerals.{add-one}
use native.Mathlib.Omega.{arith}
use lib.Dec.{leb, eqb}
use lib.ListN.{length}
use borrow.Author.Tests.{leb-true, eqb-true}
use Rattle.accept.specs.Every.{every}
use Rattle.accept.specs.Tables.{edge, contiguous, number_at, ranges_contiguous}
use Rattle.accept.proofs.Every.{every_at, conj_each}
use Rattle.accept.proofs.Starts.{not_falling}

-- where range c ended
pub edge_more : (firsts counts : ℕ → ℕ) (c : ℕ) {x y : ℕ} → x ≡ firsts c → y ≡ counts c → x + y ≡ edge firsts counts (c + 1)
edge_more firsts counts c p q = rw (p, q, add-one c)

-- n ranges follow one another from 0 to `end`
pub record Joined (firsts counts : ℕ → ℕ) (n end : ℕ) : Type 0 where
  pub first : 0 < n → firsts 0 ≡ 0
  pub next : (c : ℕ) → c + 1 < n → firsts (c + 1) ≡ firsts c + counts c
  pub inside : (c : ℕ) → c < n → firsts c + counts c ≤ end
  pub last : edge firsts counts n ≡ end

pub joined : (firsts counts : ℕ → ℕ) (n end : ℕ) → contiguous firsts counts n end ≡ true → Joined firsts counts n end
unfolding contiguous
joined firsts counts n end h =
    let both = (and-eq-true_iff (every (λ x. eqb (firsts x) (edge firsts counts x)) n) (eqb (edge firsts counts n) end)).0 h in
    let same : (c : ℕ) → c < n → firsts c ≡ edge firsts counts c = λ c k. eqb-true _ _ (every_at (λ x. eqb (firsts x) (edge firsts counts x)) n both.0 c k) in
    let z : edge firsts counts n ≡ end = eqb-true _ _ both.1 in
    let up : (c : ℕ) → c < n → edge firsts counts c ≤ edge firsts counts (c + 1) = λ c k. rw (add-one c) (let q = same c k in omega arith) in
    record {
      first = λ k. same 0 k;
      next = λ c k. same (c + 1) k ∙ rw (add-one c);
      inside = λ c k. let a = rw (add-one c) at (not_falling (edge firsts counts) n up (c + 1) (omega arith)) in omega arith;
      last = z;
    }

-- two lists that were checked have the ranges, and they follow one another
pub ranges_joined : (firsts counts : List ℕ) (n end : ℕ) → ranges_contiguous firsts counts n end ≡ true
    → (n ≤ length firsts) × (n ≤ length counts) × Joined (number_at firsts) (number_at counts) n end
ranges_joined firsts counts n end e =
    let h = conj_each (leb n (length firsts) ∷ leb n (length counts) ∷ contiguous (number_at firsts) (number_at counts) n end ∷ []) e in
    (leb-true _ _ h.0, leb-true _ _ h.1.0, joined (number_at firsts) (number_at counts) n end h.1.1.0)
