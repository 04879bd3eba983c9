-- `arith::floor`: below 0 it is the ceiling of -x, negated; a zero and a NaN stay. Assumes nothing.
use Rattle.std.proofs.Common.{ap, ◌∙◌}
use Rattle.std.specs.Float.Ieee.{neg}
use Rattle.numbers.proofs.Laws.Steps.{above_nought, below_nought, at_rest}
use Rattle.numbers.proofs.Laws.Symmetry.{ceiled_neg, neg_neg}
use Rattle.arith.proofs.steps.floor.Goals as goal

pub below-requires : goal.below-requires
below-requires c = above_nought c.args.x c.if-x.true

pub above-requires : goal.above-requires
above-requires c = below_nought c.args.x c.if-x-2.true

pub returns-then-x-2 : goal.returns-then-x-2
returns-then-x-2 c = ap neg (c.above.ensures ∙ ceiled_neg c.args.x) ∙ neg_neg _

pub returns : goal.returns
returns c = c.canonical.ensures ∙ (at_rest c.args.x c.if-x.false c.if-x-2.false).0
