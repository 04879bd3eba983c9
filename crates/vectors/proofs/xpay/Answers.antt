-- `vectors::xpay` meets its contract: after i turns `p` is what came with the sums of the first i nodes written; the element that a turn writes is still
-- as it came. Assumes nothing.
use Rattle.std.proofs.Common.{refl, arith}
use Rattle.std.specs.Float.Ieee.{nan}
use Rattle.lists.specs.Laws.Fill.{filled_none, filled_more, filled_now, filled_done}
use Rattle.vectors.proofs.xpay.Goals as goal

pub loop-i-init : goal.loop-i-init
loop-i-init c = (filled_none, refl)

pub loop-i-preserved : goal.loop-i-preserved
loop-i-preserved c = (filled_more c.loop-i.invariant.0 (omega arith) (rw (filled_now nan c.loop-i.invariant.0)), refl)

pub returns : goal.returns
returns c = filled_done c.loop-i.invariant.0 refl (omega arith)
