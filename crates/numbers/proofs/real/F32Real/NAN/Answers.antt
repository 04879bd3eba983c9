-- `numbers::real::F32Real::NAN`: 0 / 0 is the one NaN. Assumes nothing.
use Rattle.std.specs.Float.{binary32}
use Rattle.numbers.proofs.Laws.NanTest.{zero_by_zero}
use Rattle.numbers.proofs.real.F32Real.NAN.Goals as goal

pub returns : goal.returns
returns c = zero_by_zero binary32
