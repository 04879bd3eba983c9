-- `grid::Grid::new`: a shift by at most 8 is the power of two, and loses nothing. Assumes nothing.
use Rattle.std.proofs.Common.{refl}
use Rattle.grid.specs.Grid.{grid_of}
use Rattle.grid.proofs.Counts.{shifted, sides}
use Rattle.grid.proofs.Grid.new.Goals as goal

pub returns : goal.returns
unfolding grid_of
returns c = let p = c.requires in rw (shifted p.1) (refl, sides p.0 p.1)
