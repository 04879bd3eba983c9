-- `grid::Grid::cell`: three axes, each of which gives the definition. Assumes nothing.
use Rattle.grid.proofs.Counts.{cell_is}
use Rattle.grid.proofs.Grid.cell.Goals as goal

pub returns : goal.returns
returns c = cell_is _ _ _ _ _ c.requires c.cell_along-x.ensures c.cell_along-y.ensures c.cell_along-z.ensures
