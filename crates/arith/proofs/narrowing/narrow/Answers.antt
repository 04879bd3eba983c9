-- `arith::narrow`: what `magnitude` gives, under the sign, is the pattern of the narrowed value, by `NarrowPattern`. Assumes nothing.
use Rattle.std.proofs.Common.{sym, ◌∙◌, arith}
use Rattle.numbers.proofs.Laws.Comparing.{holds}
use Rattle.numbers.proofs.Laws.NarrowPattern.{bits_lt, under_nan, fits_32, narrowed_no_nan, narrowed_is, narrows_nan}
use Rattle.arith.proofs.narrowing.narrow.Goals as goal

pub overflow_mul-s : goal.overflow_mul-s
overflow_mul-s c = omega (arith, bits_lt c.args.x (holds c.well_formed.0.1) (sym c.is_nan.ensures.value ∙ c.if-is_nan.false))

pub magnitude-requires : goal.magnitude-requires
magnitude-requires c = under_nan c.args.x (holds c.well_formed.0.1) (sym c.is_nan.ensures.value ∙ c.if-is_nan.false)

pub overflow_add-result : goal.overflow_add-result
overflow_add-result c = omega (arith, fits_32 c.args.x (holds c.well_formed.0.1) (sym c.is_nan.ensures.value ∙ c.if-is_nan.false) c.magnitude.result c.magnitude.ensures)

pub overflow_cast-result : goal.overflow_cast-result
overflow_cast-result c = omega (arith, fits_32 c.args.x (holds c.well_formed.0.1) (sym c.is_nan.ensures.value ∙ c.if-is_nan.false) c.magnitude.result c.magnitude.ensures)

pub float_from_bits-result : goal.float_from_bits-result
float_from_bits-result c = narrowed_no_nan c.args.x (holds c.well_formed.0.1) (sym c.is_nan.ensures.value ∙ c.if-is_nan.false) c.magnitude.result c.magnitude.ensures

pub returns : goal.returns
returns c = narrowed_is c.args.x (holds c.well_formed.0.1) (sym c.is_nan.ensures.value ∙ c.if-is_nan.false) c.magnitude.result c.magnitude.ensures

pub returns-then-is_nan : goal.returns-then-is_nan
returns-then-is_nan c = narrows_nan c.args.x (sym c.is_nan.ensures.value ∙ c.if-is_nan.true)
