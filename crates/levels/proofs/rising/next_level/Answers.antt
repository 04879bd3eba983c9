-- `levels::next_level` meets its contract: the start, then the level from it (`next_is`). Assumes nothing.
use Rattle.std.proofs.Common.{arith}
use Rattle.points.specs.Points.{usables}
use Rattle.levels.proofs.OneAfterOther.{nodes_is, next_is}
use Rattle.levels.proofs.rising.next_level.Goals as goal

pub start_front-requires-clause-coarse_in_bounds : goal.start_front-requires-clause-coarse_in_bounds
start_front-requires-clause-coarse_in_bounds c =
    let few = nodes_is c.args.problem c.args.depth c.grid.ensures.0 in
    let many = nodes_is c.args.problem _ c.grid-g.ensures.0 in
    let before = c.requires.sized.of_before in
    (omega (arith, few, before, c.requires.nodes_in_bounds), omega (arith, few, c.requires.nodes_in_bounds), omega (arith, many, c.requires.nodes_in_bounds))

pub level_front-requires-clause-g_in_bounds : goal.level_front-requires-clause-g_in_bounds
level_front-requires-clause-g_in_bounds c =
    omega (arith, c.start_front.auto.x, nodes_is c.args.problem _ c.grid-g.ensures.0, c.requires.nodes_in_bounds)

pub returns-clause-front : goal.returns-clause-front
returns-clause-front c =
    next_is c.args.problem (usables c.args.points.now) c.args.depth c.args.slices.now.x.now c.start_front.new.x c.level_front.new.slices.x.now c.grid.ensures.0 c.grid-g.ensures.0 c.start_front.ensures c.level_front.ensures.front
