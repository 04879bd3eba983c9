-- No second outcome fits: each public function, in the order of the sources. Assumes nothing.
use mathlib.Core.Path.{refl}
use Rattle.lists.specs.OneOutcome.{OneOutcome}
use Rattle.lists.specs.Laws.OneAnswer.{same, ◌&◌}
use Rattle.solver.specs.contracts as contract
use Rattle.solver.proofs as fn

-- ---- gradients.rt

pub conjugate_gradient : OneOutcome contract.gradients.conjugate_gradient.ended fn.gradients.conjugate_gradient.Reads.Post
conjugate_gradient κs args o o' p q =
    refl
    & refl
    & refl
    & same p.of_x q.of_x
    & same p.of_r q.of_r
    & same p.of_p q.of_p
    & same p.of_ap q.of_ap
    & refl
