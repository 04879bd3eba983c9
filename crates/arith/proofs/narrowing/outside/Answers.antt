-- `arith::outside`: from 2 ^ 128 on the result is an infinity, by `NarrowPattern`. Assumes nothing.
use Rattle.numbers.proofs.Laws.NarrowPattern.{magnitude_large}
use Rattle.arith.proofs.narrowing.outside.Goals as goal

pub returns-else-m-lt4039728865751334912 : goal.returns-else-m-lt4039728865751334912
returns-else-m-lt4039728865751334912 c s = magnitude_large c.args.m s (c.requires.beyond c.if-m-lt4039728865751334912.false) c.requires.within
