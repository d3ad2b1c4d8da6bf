-- `float::root::sqrt` meets its contract. By its cases, and for a positive finite number by that of `positive`. Assumes nothing.
use Rattle.std.proofs.lemmas.Float.{T_from_true, not_nan_f32_bits}
use Rattle.std.proofs.Common.{◌≡◌, Bool, not, T, sym, ap, ◌∙◌, subst, arith}
use lib.Ieee.{Float, binary32, fits}
use lib.Ieee.Bits.{of_bits-to_bits}
use lib.Ieee.Positive.{positive}
use Rattle.float.specs.Root.{square_root, NearestRoot}
use Rattle.float.proofs.Nearness.{nearest_root}
use Rattle.float.proofs.Cases.{of_nan, of_zero, of_inf, negative, is_positive}
use Rattle.float.proofs.root.sqrt.Goals as goal

-- the second clause follows from the first
both : (x r : Float) → T (fits binary32 x) → r ≡ square_root x → record { value : r ≡ square_root x; nearest : T (positive x) → NearestRoot x r }
both x r F e = record { value = e; nearest = λ p. subst (NearestRoot x) (sym e) (nearest_root x F p) }

pub returns-then-is_nan : goal.returns-then-is_nan
returns-then-is_nan c =
    both _ _ (T_from_true _ c.well_formed.0.1) (of_nan c.args.x (sym c.is_nan.ensures.value ∙ c.if-is_nan.true))

pub returns-then-b-eq0 : goal.returns-then-b-eq0
returns-then-b-eq0 c =
    both _ _ (T_from_true _ c.well_formed.0.1) (of_zero c.args.x (T_from_true _ c.well_formed.0.1) c.if-b-eq0.true)

pub returns-then-b-ne0 : goal.returns-then-b-ne0
returns-then-b-ne0 c =
    both _ _ (T_from_true _ c.well_formed.0.1) (negative c.args.x _ (T_from_true _ c.well_formed.0.1) c.if-b-eq0.false c.if-b-ne0.true c.nan.ensures)

pub returns-then-b-eq2139095040 : goal.returns-then-b-eq2139095040
returns-then-b-eq2139095040 c =
    both _ _ (T_from_true _ c.well_formed.0.1) (of_inf c.args.x (T_from_true _ c.well_formed.0.1) c.if-b-eq2139095040.true)

pub positive-requires : goal.positive-requires
positive-requires c =
    is_positive c.args.x (T_from_true _ c.well_formed.0.1) (subst (λ (b : Bool). T (not b)) (sym c.if-is_nan.false ∙ c.is_nan.ensures.value) tt) c.if-b-eq0.false c.if-b-ne0.false c.if-b-eq2139095040.false

pub float_from_bits-result : goal.float_from_bits-result
float_from_bits-result c =
    not_nan_f32_bits c.positive.result (let h = c.positive.ensures.0 in omega arith)

pub returns : goal.returns
returns c =
    both _ _ (T_from_true _ c.well_formed.0.1) (c.positive.ensures.1 ∙ ap (λ (y : Float). square_root y) (of_bits-to_bits binary32 c.args.x (T_from_true _ c.well_formed.0.1)))
