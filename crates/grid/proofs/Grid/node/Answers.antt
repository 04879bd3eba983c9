-- `grid::Grid::node`: the node lies in the cube, which has at most 256^3. Assumes nothing.
use Rattle.std.proofs.Common.{lt_of_lt_of_le, arith}
use Rattle.grid.specs.Laws.Numbering.{node_below}
use Rattle.grid.specs.Laws.Rows.{cube_most}
use Rattle.grid.proofs.Grid.node.Goals as goal

pub node_at-requires : goal.node_at-requires
node_at-requires c = (omega (arith, c.requires.sides), lt_of_lt_of_le (node_below c.requires.position) (cube_most c.requires.sides.most))
