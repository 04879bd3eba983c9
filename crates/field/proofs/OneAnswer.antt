-- No second outcome fits: each public function, in the order of the sources. Assumes nothing.
use mathlib.Core.Path.{refl}
use Rattle.lists.specs.OneOutcome.{OneOutcome}
use Rattle.lists.specs.Laws.OneAnswer.{same, ◌&◌}
use Rattle.field.specs.contracts as contract
use Rattle.field.proofs as fn

-- ---- lib.rt

pub right_side : OneOutcome contract.right_side.ended fn.right_side.Reads.Post
right_side κs args o o' p q =
    refl
    & refl
    & refl
    & refl
    & refl
    & same p.0 q.0
    & same p.1 q.1
    & same p.2 q.2
    & same p.3 q.3
    & same p.4 q.4
    & refl

-- ---- divergence.rt

pub divergence : OneOutcome contract.divergence.divergence.ended fn.divergence.divergence.Reads.Post
divergence κs args o o' p q = refl & refl & refl & refl & refl & same p q & refl

-- ---- splat.rt

pub splat : OneOutcome contract.splat.splat.ended fn.splat.splat.Reads.Post
splat κs args o o' p q = refl & refl & refl & refl & same p q & refl
