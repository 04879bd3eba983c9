-- `arith::above`: from 2 ^ 52 on a value is whole; under it the whole part and the number after it are floats exactly. Assumes nothing.
use Rattle.std.proofs.Common.{arith}
use Rattle.numbers.proofs.Laws.Comparing.{holds}
use Rattle.numbers.proofs.Laws.Steps.{in_range, q_lt, castable, castable_next, when_whole, ceil_part, from_limit}
use Rattle.arith.proofs.steps.above.Goals as goal

pub truncating_f64_to_u64-q-requires-clause-lower_bound : goal.truncating_f64_to_u64-q-requires-clause-lower_bound
truncating_f64_to_u64-q-requires-clause-lower_bound c = (in_range c.args.y c.requires c.if-y.true).0

pub truncating_f64_to_u64-q-requires-clause-upper_bound : goal.truncating_f64_to_u64-q-requires-clause-upper_bound
truncating_f64_to_u64-q-requires-clause-upper_bound c = (in_range c.args.y c.requires c.if-y.true).1

pub int_to_float-w : goal.int_to_float-w
int_to_float-w c = let g = c.truncating_f64_to_u64-q in castable c.args.y c.requires c.if-y.true g.result g.ensures

pub overflow_add-result : goal.overflow_add-result
overflow_add-result c = let g = c.truncating_f64_to_u64-q in omega (arith, q_lt c.args.y c.requires c.if-y.true g.result g.ensures)

pub int_to_float-result : goal.int_to_float-result
int_to_float-result c = let g = c.truncating_f64_to_u64-q in castable_next c.args.y c.requires c.if-y.true g.result g.ensures

pub returns-then-w-y : goal.returns-then-w-y
returns-then-w-y c = let g = c.truncating_f64_to_u64-q in (when_whole c.args.y c.requires c.if-y.true g.result g.ensures c.if-w-y.true).1

pub returns-else-w-y : goal.returns-else-w-y
returns-else-w-y c = let g = c.truncating_f64_to_u64-q in ceil_part c.args.y c.requires c.if-y.true g.result g.ensures c.if-w-y.false

pub returns-else-y : goal.returns-else-y
returns-else-y c = (from_limit c.args.y (holds c.well_formed.0.1) c.requires c.if-y.false).1
