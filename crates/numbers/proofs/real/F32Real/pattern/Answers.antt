-- The pattern of an `f32` has 32 digits. Assumes nothing.
use Rattle.std.proofs.Common.{◌^◌, ◌<◌, to_bits, arith}
use Rattle.std.specs.Float.{binary32}
use Rattle.std.specs.Float.Ieee.Bits.{to_bits-lt}
use Rattle.numbers.proofs.Laws.Comparing.{holds}
use Rattle.numbers.proofs.real.F32Real.pattern.Goals as goal

pub overflow_cast-result : goal.overflow_cast-result
overflow_cast-result c =
    let below : to_bits binary32 c.args.self < 2 ^ 32 = to_bits-lt binary32 c.args.self (holds c.well_formed.0.1) in
    omega (arith, below)
