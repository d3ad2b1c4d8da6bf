-- The Halton sequence's radical inverse as the Rust computes it: the digits of i in a base, the least first, each times the next power of 1 / base. Definitions only.
use Rattle.std.specs.Prelude.{cond, ℕ, zero, suc, ◌/◌, ◌%◌, eqb, pos, Float}
use Rattle.std.specs.Float.{binary32}
use Rattle.std.specs.Float.Ieee.{of_int}
use Rattle.float.specs.Arithmetic.{◌+f◌, ◌*f◌, ◌/f◌, 0f, 1f}

-- a whole number as f32
abbrev pub of_whole : ℕ → Float
of_whole n = of_int binary32 (pos n)

-- r and the digits of i, at most `left` of them, the first weighed by f × (1 / base)
unfoldable pub inverse_from : ℕ → ℕ → Float → Float → ℕ → Float
inverse_from base zero f r i = r
inverse_from base (suc left) f r i =
    let w = f *f (1f /f of_whole base) in
    cond (eqb i 0) r (inverse_from base left w (r +f w *f of_whole (i % base)) (i / base))

-- in a base of 2 or more a number has no more digits than its own size
unfoldable pub radical_inverse : ℕ → ℕ → Float
radical_inverse base i = inverse_from base i 1f 0f i
