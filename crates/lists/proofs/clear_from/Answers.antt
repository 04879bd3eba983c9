-- The goals of `lists::clear_from` by the laws of `ClearedFrom`: its start, a turn, and the end. Assumes nothing.
use Rattle.std.proofs.Common.{refl, arith}
use Rattle.lists.specs.Laws.Padded.{cleared_none, cleared_more, cleared_done}
use Rattle.lists.proofs.clear_from.Goals as goal

pub loop-i-init : goal.loop-i-init
loop-i-init g c = (cleared_none, refl)

pub loop-i-preserved : goal.loop-i-preserved
loop-i-preserved g c = let inv = c.loop-i.invariant in (rw c.ZERO.ensures (cleared_more inv.0 (omega arith)), inv.1)

pub returns : goal.returns
returns g c = cleared_done c.loop-i.invariant.0 (omega arith)
