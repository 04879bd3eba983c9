-- `field::right_side_by` meets its contract: the right side of the three components (`side_of_lem`). Assumes nothing.
use Rattle.std.proofs.Common.{◌∙◌}
use Rattle.numbers.specs.Arithmetic.{narrowed}
use Rattle.field.specs.Field.{right_side_by}
use Rattle.field.proofs.RightSide.{side_of_lem}
use Rattle.field.proofs.right_side_by.Goals as goal

pub returns : goal.returns
unfolding right_side_by
returns c = c.divergence.ensures ∙ side_of_lem c.args.g.nodes (narrowed c.args.g.step) c.component.ensures c.component-2.ensures c.component-3.ensures
