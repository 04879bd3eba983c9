-- `points::Point::length`: by the contracts of `squares` and `root`. Assumes nothing.
use Rattle.points.specs.Points.{length_of}
use Rattle.points.proofs.point.Point.length.Goals as goal

pub returns : goal.returns
unfolding length_of
returns c = rw (c.root.ensures, c.squares.ensures)
