-- `subnormal::packing::packed` meets its contract. Assumes nothing.
use mathlib.Core.Path.{◌≡◌, sym, ap, ◌∙◌, subst}
use Prim.Native.Nat.{ℕ, ◌+◌, ◌-◌, ◌*◌, ◌^◌, ◌≤◌, ◌<◌}
use native.Mathlib.Nat.{mod-eq_of_lt}
use native.Mathlib.Omega.{arith}
use lib.Ieee.{size}
use lib.Ieee.Digits.{size-le}
use lib.Ieee.Nearest.{closest}
use Rattle.subnormal.specs.Packing.{beyond, dropped}
use Rattle.subnormal.proofs.Packed.{kept-le}
use Rattle.subnormal.proofs.packing.packed.Goals as goal

short : (p : ℕ) → p < 2 ^ 50 → size p ≤ 50
short p l = size-le p 50 l

-- what the two calls gave, in p and t
beyond-is : (c : goal.After-saturating_sub-beyond) → c.saturating_sub-beyond.result ≡ beyond c.args.p c.args.t
beyond-is c = c.saturating_sub-beyond.ensures ∙ ap (λ (i : ℕ). i + 40 - c.args.t) c.digits.ensures

kept_is : (c : goal.After-nearest-kept) → c.nearest-kept.result ≡ closest c.args.p (2 ^ dropped c.args.p c.args.t)
kept_is c =
    c.nearest-kept.ensures ∙ ap (λ (i : ℕ). closest c.args.p (2 ^ (i + c.args.t - 64))) (beyond-is c.before)

kept-few : (c : goal.After-nearest-kept) → c.nearest-kept.result ≤ 2 ^ 24
kept-few c = subst (λ (i : ℕ). i ≤ 2 ^ 24) (sym (kept_is c)) (kept-le c.args.p c.args.t c.requires.bound)

beyond-few : (c : goal.After-saturating_sub-beyond) → c.saturating_sub-beyond.result ≤ 90
beyond-few c = let h = short c.args.p c.requires.p_bound in let e = beyond-is c in omega arith

pub overflow_add-digits : goal.overflow_add-digits
overflow_add-digits c =
    omega (arith, short c.args.p c.requires.p_bound)

pub overflow_add-beyond : goal.overflow_add-beyond
overflow_add-beyond c =
    omega (arith, short c.args.p c.requires.p_bound)

pub overflow_sub-beyond : goal.overflow_sub-beyond
overflow_sub-beyond c =
    omega arith

pub nearest-kept-requires : goal.nearest-kept-requires
nearest-kept-requires c =
    record { p_bound = c.requires.p_bound; k_nonzero = omega arith }

pub overflow_cast-result : goal.overflow_cast-result
overflow_cast-result c =
    omega (arith, kept-few c)

pub overflow_add-result : goal.overflow_add-result
overflow_add-result c =
    omega (arith, kept-few c, beyond-few c.before)

pub returns : goal.returns
returns c =
    let few = kept-few c in
    let less = beyond-few c.before in
    record {
      value = ap (λ (i : ℕ). i + c.nearest-kept.result) (mod-eq_of_lt (small c.saturating_sub-beyond.result less))
          ∙ ap (λ (i : ℕ). i * 2 ^ 23 + c.nearest-kept.result) (beyond-is c.before)
          ∙ ap (λ (i : ℕ). beyond c.args.p c.args.t * 2 ^ 23 + i) (kept_is c);
      upper_bound = omega arith;
    }
  where
    small : (i : ℕ) → i ≤ 90 → i * 2 ^ 23 < 2 ^ 32
    small i h = omega arith
