-- No second outcome fits: each public function, in the order of the sources. Assumes nothing.
use mathlib.Core.Path.{refl}
use Rattle.lists.specs.OneOutcome.{OneOutcome}
use Rattle.lists.specs.Laws.OneAnswer.{same, ◌&◌}
use Rattle.search.specs.contracts as contract
use Rattle.search.proofs as fn

-- ---- brute.rt

pub nearest : OneOutcome contract.brute.nearest.ended fn.brute.nearest.Reads.Post
nearest κs args o o' p q = same p q & refl

pub within : OneOutcome contract.brute.within.ended fn.brute.within.Reads.Post
within κs args o o' p q = same p q & refl

-- ---- neighbours.rt

pub spacing : OneOutcome contract.neighbours.spacing.ended fn.neighbours.spacing.Reads.Post
spacing κs args o o' p q = same p.0 q.0 & refl & same p.1 q.1 & refl
