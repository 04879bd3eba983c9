-- `grid::Cell::weight`: three sides and two products. Assumes nothing.
use Rattle.grid.specs.Grid.{weight_at}
use Rattle.grid.proofs.Cell.weight.Goals as goal

pub returns : goal.returns
unfolding weight_at
returns c = rw (c.side.ensures, c.side-2.ensures, c.side-3.ensures, c.offsets-d.ensures)
