-- The `f64` of a pattern below the infinity's, which is no NaN's. Assumes nothing.
use Rattle.std.specs.Float.{binary64}
use Rattle.numbers.proofs.Laws.Patterns.{no_nan}
use Rattle.numbers.proofs.real.F64Real.of_pattern.Goals as goal

pub float_from_bits-result : goal.float_from_bits-result
float_from_bits-result c = no_nan binary64 c.args.pattern c.requires
