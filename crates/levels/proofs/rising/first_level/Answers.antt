-- `levels::first_level` meets its contract: x was cleared, so its front is zeros (`first_is`). Assumes nothing.
use Rattle.std.proofs.Common.{arith}
use Rattle.points.specs.Points.{usables}
use Rattle.levels.proofs.OneAfterOther.{nodes_is, first_is}
use Rattle.levels.proofs.rising.first_level.Goals as goal

pub level_front-requires-clause-g_in_bounds : goal.level_front-requires-clause-g_in_bounds
level_front-requires-clause-g_in_bounds c =
    omega (arith, c.clear.auto.values, nodes_is c.args.problem c.args.depth c.grid.ensures.0, c.requires.depth_in_bounds)

pub returns-clause-front : goal.returns-clause-front
returns-clause-front c =
    first_is c.args.problem (usables c.args.points.now) c.args.depth c.level_front.new.slices.x.now c.grid.ensures.0 c.requires.depth_in_bounds c.clear.ensures c.level_front.ensures.front
