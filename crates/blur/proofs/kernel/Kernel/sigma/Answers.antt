-- `blur::kernel::Kernel::sigma` meets its contract: widening leaves the number as it is.
-- Assumes nothing.
use Rattle.std.proofs.Common.{◌∙◌}
use Rattle.blur.specs.Blur.{sigma_of}
use Rattle.blur.proofs.kernel.Kernel.sigma.Goals as goal

pub returns : goal.returns
unfolding sigma_of
returns c = c.clamp.ensures ∙ rw c.widen.ensures
