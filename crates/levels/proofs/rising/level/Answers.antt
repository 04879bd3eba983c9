-- `levels::level` meets its contract: what its two stages say. Assumes nothing.
use Rattle.std.proofs.Common.{◌∙◌}
use Rattle.levels.specs.Levels.{level_from}
use Rattle.levels.proofs.rising.level.Goals as goal

pub returns : goal.returns
unfolding level_from
returns c = c.conjugate_gradient.ensures.of_x ∙ rw c.right_side.ensures.0
