-- `grid::Edge::of`: the definition is the code's sum. Assumes nothing.
use Rattle.std.proofs.Common.{refl}
use Rattle.closed.specs.Grid.{edge}
use Rattle.grid.proofs.Edge.of.Goals as goal

pub returns : goal.returns
unfolding edge
returns c = refl
