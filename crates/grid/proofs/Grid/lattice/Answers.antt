-- `grid::Grid::lattice`: it is the definition, and a cube's counts are within the bounds. Assumes nothing.
use Rattle.std.proofs.Common.{refl}
use Rattle.grid.specs.Grid.{lattice_of}
use Rattle.grid.specs.Laws.Rows.{cube_counts}
use Rattle.grid.proofs.Grid.lattice.Goals as goal

pub returns : goal.returns
unfolding lattice_of
returns c = (refl, cube_counts c.requires)
