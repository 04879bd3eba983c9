-- `grid::Grid::corner`: it is the node at the cell's counts and the corner's offsets. Assumes nothing.
use Rattle.std.proofs.Common.{◌∙◌}
use Rattle.grid.specs.Grid.{cell_corner}
use Rattle.grid.proofs.Grid.corner.Goals as goal

pub returns : goal.returns
unfolding cell_corner
returns c = c.node.ensures ∙ rw c.offsets-d.ensures
