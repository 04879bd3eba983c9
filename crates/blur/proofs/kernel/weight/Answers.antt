-- `blur::kernel::weight` meets its contract: an offset's size is at most 36, and its square at most 1296.
-- Assumes nothing.
use Rattle.std.proofs.Common.{◌∙◌}
use Rattle.blur.specs.Blur.{weight_of}
use Rattle.blur.proofs.kernel.weight.Goals as goal

pub returns : goal.returns
unfolding weight_of
returns c = c.exp_neg.ensures ∙ rw c.reach-d.ensures
