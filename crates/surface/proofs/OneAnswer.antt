-- No second outcome fits: each public function, in the order of the sources. Assumes nothing.
use mathlib.Core.Path.{refl}
use Rattle.lists.specs.OneOutcome.{OneOutcome}
use Rattle.lists.specs.Laws.OneAnswer.{same, ◌&◌}
use Rattle.surface.specs.contracts as contract
use Rattle.surface.proofs as fn

-- ---- mean.rt

pub level : OneOutcome contract.mean.level.ended fn.mean.level.Reads.Post
level κs args o o' p q = same p q & refl
