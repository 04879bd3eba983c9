-- `arith::scaled`: the digits moved up by z over 2 ^ (lift + z) are the same fraction, and where lift + z is above 53 it is below a half.
-- Assumes nothing.
use Rattle.std.proofs.Common.{◌-◌, ◌∙◌, arith}
use lib.Count.{count_leading_zeros}
use Rattle.numbers.proofs.Laws.ClosestAdd.{lifted, closest_moved, closest_nothing}
use Rattle.arith.proofs.narrowing.scaled.Goals as goal

pub overflow_sub-z : goal.overflow_sub-z
overflow_sub-z c = (lifted c.args.digits c.requires.width).0

pub rounded-requires-clause-width : goal.rounded-requires-clause-width
rounded-requires-clause-width c = let z = lifted c.args.digits c.requires.width in omega arith

pub returns-then-shift-le53 : goal.returns-then-shift-le53
returns-then-shift-le53 c = c.rounded.ensures ∙ closest_moved c.args.digits c.args.lift (count_leading_zeros 64 c.args.digits - 11) (lifted c.args.digits c.requires.width).2

pub returns-else-shift-le53 : goal.returns-else-shift-le53
returns-else-shift-le53 c = closest_nothing c.args.digits c.args.lift (count_leading_zeros 64 c.args.digits - 11) (lifted c.args.digits c.requires.width).2 c.if-shift-le53.false
