-- No second outcome fits: each public function, in the order of the sources. Assumes nothing.
use mathlib.Core.Path.{refl}
use Rattle.lists.specs.OneOutcome.{OneOutcome}
use Rattle.lists.specs.Laws.OneAnswer.{same, ◌&◌}
use Rattle.meshes.proofs.OneAnswer.{by_counts}
use Rattle.numbering.specs.contracts as contract
use Rattle.numbering.proofs as fn

-- ---- number.rt

pub number_edges : OneOutcome contract.number.number_edges.ended fn.number.number_edges.Reads.Post
number_edges κs args o o' p q =
    by_counts (same p.vertices q.vertices) (same p.faces q.faces)
    & refl
    & refl
    & refl
    & same p.numbers q.numbers
    & refl
