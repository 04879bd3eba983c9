-- `arith::rounded`: `ClosestAdd` says that the sum rounds to nearest even. Assumes nothing.
use Rattle.numbers.proofs.Laws.ClosestAdd.{closest_shift}
use Rattle.arith.proofs.narrowing.rounded.Goals as goal

pub returns : goal.returns
returns c = closest_shift c.args.n c.args.shift c.requires.least c.requires.most
