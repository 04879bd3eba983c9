-- `blur::blur::add_times` meets its contract. The loop's invariant: `x` is what came with its first k elements written.
-- Assumes nothing.
use Rattle.std.proofs.Common.{refl, arith}
use Rattle.std.specs.Float.Ieee.{nan}
use Rattle.lists.specs.Laws.Fill.{filled_none, filled_more, filled_now, filled_done}
use Rattle.blur.proofs.blur.add_times.Goals as goal

pub loop-k-init : goal.loop-k-init
loop-k-init c = (filled_none, refl)

pub loop-k-preserved : goal.loop-k-preserved
loop-k-preserved c = (filled_more c.loop-k.invariant.0 (omega arith) (rw (filled_now nan c.loop-k.invariant.0)), refl)

pub returns : goal.returns
returns c = filled_done c.loop-k.invariant.0 refl (omega arith)
