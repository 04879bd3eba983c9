-- `levels::all_levels` meets its contract: the first level and those after it (`solution_is`). Assumes nothing.
use Rattle.std.proofs.Common.{◌≤◌, arith}
use Rattle.points.specs.Points.{usables}
use Rattle.levels.proofs.Fronts.{nodes_mono}
use Rattle.levels.proofs.OneAfterOther.{solution_is}
use Rattle.levels.proofs.rising.all_levels.Goals as goal

pub first_level-requires-clause-depth_in_bounds : goal.first_level-requires-clause-depth_in_bounds
first_level-requires-clause-depth_in_bounds c =
    let most : c.min-first.result ≤ c.args.depth = omega (arith, c.min-first.ensures) in omega (arith, c.requires.sized.of_x, nodes_mono most)

pub returns-clause-solved : goal.returns-clause-solved
returns-clause-solved c = solution_is c.args.problem (usables c.args.points.now) c.args.depth c.min-first.ensures c.rise.ensures.all
