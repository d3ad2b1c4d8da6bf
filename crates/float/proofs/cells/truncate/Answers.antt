-- `float::cells::truncate` meets its contract. Between 1 and 2 ^ 31 the cast to 64 bits is the cast to i32. Assumes nothing.
use Rattle.std.proofs.Common.{sym, ◌∙◌}
use lib.Ieee.{of_bits}
use Rattle.float.proofs.Casts.{truncate_low, truncate_mid, truncate_asks, truncate-nan, truncate_high}
use Rattle.float.proofs.cells.truncate.Goals as goal

pub truncating_f32_to_u64-requires : goal.truncating_f32_to_u64-requires
unfolding of_bits
truncating_f32_to_u64-requires c =
    let h = truncate_asks _ c.if-x.false c.if-x-2.true in record { lower_bound = h.0; upper_bound = h.1 }

pub returns-then-x : goal.returns-then-x
unfolding of_bits
returns-then-x c =
    truncate_low _ c.if-x.true

pub returns-then-x-2 : goal.returns-then-x-2
unfolding of_bits
returns-then-x-2 c =
    c.truncating_f32_to_u64.ensures ∙ truncate_mid _ c.if-x.false c.if-x-2.true

pub returns-then-is_nan : goal.returns-then-is_nan
returns-then-is_nan c =
    truncate-nan _ (sym c.is_nan.ensures.value ∙ c.if-is_nan.true)

pub returns-else-is_nan : goal.returns-else-is_nan
unfolding of_bits
returns-else-is_nan c =
    truncate_high _ c.if-x-2.false (sym c.is_nan.ensures.value ∙ c.if-is_nan.false)
