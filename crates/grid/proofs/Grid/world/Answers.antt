-- `grid::Grid::world`: it is the definition. Assumes nothing.
use Rattle.std.proofs.Common.{refl}
use Rattle.grid.specs.Grid.{world_of}
use Rattle.grid.proofs.Grid.world.Goals as goal

pub returns : goal.returns
unfolding world_of
returns c = refl
