-- The infinity of `f32`: 1 / 0. Assumes nothing.
use Rattle.std.proofs.Common.{refl}
use Rattle.std.specs.Float.Ieee.{of_bits, div}
use Rattle.numbers.proofs.real.F32Real.INFINITY.Goals as goal

pub returns : goal.returns
unfolding of_bits div
returns c = refl
