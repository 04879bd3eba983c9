-- `trim::moving::scatter`: before vertex w the vertices before it have their coordinates. Assumes nothing.
use Rattle.std.proofs.Common.{refl, add-one}
use Rattle.trim.specs.Words.{scattered}
use Rattle.trim.proofs.moving.scatter.Goals as goal

pub loop-w-init : goal.loop-w-init
unfolding scattered
loop-w-init c = refl

pub loop-w-preserved : goal.loop-w-preserved
unfolding scattered
loop-w-preserved c = rw (c.get.ensures, c.of.ensures, c.loop-w.invariant, add-one) refl
