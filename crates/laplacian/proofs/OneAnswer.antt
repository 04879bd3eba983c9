-- No second outcome fits: each public function, in the order of the sources. Assumes nothing.
use mathlib.Core.Path.{refl}
use Rattle.lists.specs.OneOutcome.{OneOutcome}
use Rattle.lists.specs.Laws.OneAnswer.{same, ◌&◌}
use Rattle.laplacian.specs.contracts as contract
use Rattle.laplacian.proofs as fn

pub apply : OneOutcome contract.apply.ended fn.apply.Reads.Post
apply κs args o o' p q = refl & refl & refl & same p q & refl
