-- No second outcome fits: each public function that is seen outside the crate; `all_levels` and `start_front` are called for `solve` alone. Assumes nothing.
use mathlib.Core.Path.{refl}
use Rattle.lists.specs.OneOutcome.{OneOutcome}
use Rattle.lists.specs.Laws.OneAnswer.{same, ◌&◌}
use Rattle.levels.specs.contracts as contract
use Rattle.levels.proofs as fn

pub problem_grid : OneOutcome contract.Problem.grid.ended fn.Problem.grid.Reads.Post
problem_grid κs args o o' p q = same p.0 q.0 & refl

pub solve : OneOutcome contract.solve.ended fn.solve.Reads.Post
solve κs args o o' p q =
    refl
    & refl
    & refl
    & refl
    & same p.of_x q.of_x
    & same p.of_before q.of_before
    & same p.of_b q.of_b
    & same p.of_s q.of_s
    & same p.of_r q.of_r
    & same p.of_p q.of_p
    & same p.of_ap q.of_ap
    & refl
