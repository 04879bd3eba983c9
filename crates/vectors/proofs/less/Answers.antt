-- `vectors::less` meets its contract: after i turns `r` is what came with the differences of the first i nodes written. Assumes nothing.
use Rattle.std.proofs.Common.{refl, arith}
use Rattle.lists.specs.Laws.Fill.{filled_none, filled_more, filled_done}
use Rattle.vectors.proofs.less.Goals as goal

pub loop-i-init : goal.loop-i-init
loop-i-init c = (filled_none, refl)

pub loop-i-preserved : goal.loop-i-preserved
loop-i-preserved c = (filled_more c.loop-i.invariant.0 (omega arith) refl, refl)

pub returns : goal.returns
returns c = filled_done c.loop-i.invariant.0 refl (omega arith)
