-- `field::divergence::inner` meets its contract: the definition's own sum of the three slopes.
-- Assumes nothing.
use Rattle.field.specs.Field.{divergence_at}
use Rattle.field.proofs.divergence.inner.Goals as goal

pub returns : goal.returns
unfolding divergence_at
returns c = rw (c.slope-3.ensures, c.slope-2.ensures, c.slope.ensures)
