-- `arith::below`: from 2 ^ 52 on a value is whole; under it the whole part is a float exactly, and it is y where y is whole. Assumes nothing.
use Rattle.numbers.proofs.Laws.Comparing.{holds}
use Rattle.numbers.proofs.Laws.Steps.{in_range, castable, when_whole, floor_part, from_limit}
use Rattle.arith.proofs.steps.below.Goals as goal

pub truncating_f64_to_u64-w-requires-clause-lower_bound : goal.truncating_f64_to_u64-w-requires-clause-lower_bound
truncating_f64_to_u64-w-requires-clause-lower_bound c = (in_range c.args.y c.requires c.if-y.true).0

pub truncating_f64_to_u64-w-requires-clause-upper_bound : goal.truncating_f64_to_u64-w-requires-clause-upper_bound
truncating_f64_to_u64-w-requires-clause-upper_bound c = (in_range c.args.y c.requires c.if-y.true).1

pub int_to_float-w : goal.int_to_float-w
int_to_float-w c = let g = c.truncating_f64_to_u64-w in castable c.args.y c.requires c.if-y.true g.result g.ensures

pub returns-then-w-y : goal.returns-then-w-y
returns-then-w-y c = let g = c.truncating_f64_to_u64-w in (when_whole c.args.y c.requires c.if-y.true g.result g.ensures c.if-w-y.true).0

pub returns-else-w-y : goal.returns-else-w-y
returns-else-w-y c = let g = c.truncating_f64_to_u64-w in floor_part c.args.y c.requires c.if-y.true g.result g.ensures c.if-w-y.false

pub returns-else-y : goal.returns-else-y
returns-else-y c = (from_limit c.args.y (holds c.well_formed.0.1) c.requires c.if-y.false).0
