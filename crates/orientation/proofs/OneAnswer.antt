-- No second outcome fits: each public function, in the order of the sources. Assumes nothing.
use mathlib.Core.Path.{refl}
use Rattle.lists.specs.OneOutcome.{OneOutcome}
use Rattle.lists.specs.Laws.OneAnswer.{same, ◌&◌}
use Rattle.orientation.specs.contracts as contract
use Rattle.orientation.proofs as fn

-- ---- lib.rt

pub orient : OneOutcome contract.orient.ended fn.orient.Reads.Post
orient κs args o o' p q = refl & refl & refl & refl & same p q & refl

-- ---- triangle.rt

pub centre : OneOutcome contract.triangle.centre.ended fn.triangle.centre.Reads.Post
centre κs args o o' p q = same p q & refl

pub normal : OneOutcome contract.triangle.normal.ended fn.triangle.normal.Reads.Post
normal κs args o o' p q = same p q & refl
