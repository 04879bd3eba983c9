-- `arith::small`: the digits and the exponent of the two fields, by `NarrowPattern`. Assumes nothing.
use Rattle.numbers.proofs.Laws.NarrowPattern.{small_zero, small_field}
use Rattle.arith.proofs.narrowing.small.Goals as goal

pub returns-then-e-eq0 : goal.returns-then-e-eq0
returns-then-e-eq0 c s = small_zero c.args.m c.scaled.result s c.if-e-eq0.true c.scaled.ensures

pub returns-else-e-eq0 : goal.returns-else-e-eq0
returns-else-e-eq0 c s = small_field c.args.m c.scaled-else-e-eq0.result s c.if-e-eq0.false c.requires c.scaled-else-e-eq0.ensures
