-- `field::divergence::slope` meets its contract: the definition's own operations.
-- Assumes nothing.
use Rattle.std.proofs.Common.{refl}
use Rattle.field.specs.Field.{slope_at}
use Rattle.field.proofs.divergence.slope.Goals as goal

pub returns : goal.returns
unfolding slope_at
returns c = refl
