-- `levels::start` meets its contract: after q turns the first q nodes are written. Assumes nothing.
use Rattle.std.proofs.Common.{refl, ◌∙◌, arith}
use Rattle.lists.specs.Laws.Fill.{filled_none, filled_more, filled_done}
use Rattle.levels.proofs.starting.start.Goals as goal

pub loop-q-init : goal.loop-q-init
loop-q-init c = (filled_none, refl)

pub loop-q-preserved : goal.loop-q-preserved
loop-q-preserved c = (filled_more c.loop-q.invariant.0 (omega arith) (c.start_at.ensures ∙ rw c.of.ensures), refl)

pub returns : goal.returns
returns c = filled_done c.loop-q.invariant.0 c.requires.before_len.1 (omega arith)
