-- `blur::kernel::Kernel::radius_of` meets its contract: the definition in the same two steps.
-- Assumes nothing.
use Rattle.std.proofs.Common.{◌∙◌}
use Rattle.blur.specs.Blur.{radius_of}
use Rattle.blur.proofs.kernel.Kernel.radius_of.Goals as goal

pub returns : goal.returns
unfolding radius_of
returns c = c.to_whole.ensures ∙ rw c.ceiling.ensures
