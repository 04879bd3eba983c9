-- `vectors::dot` meets its contract: after i turns `s` is the sum of the first i products. Assumes nothing.
use Rattle.std.proofs.Common.{refl, arith}
use Rattle.vectors.proofs.Laws.Dotted.{summed_none, summed_more, summed_done}
use Rattle.vectors.proofs.dot.Goals as goal

pub loop-i-init : goal.loop-i-init
loop-i-init c = (summed_none, refl)

pub loop-i-preserved : goal.loop-i-preserved
loop-i-preserved c = (summed_more c.loop-i.invariant.0 (omega arith) (rw (c.widen-in-loop-i.ensures, c.widen.ensures)), refl)

pub returns : goal.returns
returns c = summed_done c.args.g c.loop-i.invariant.0 c.requires.0 (omega arith)
