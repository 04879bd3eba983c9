-- `points::Point::place`: widening changes no value. Assumes nothing.
use Rattle.points.specs.Points.{position_of}
use Rattle.points.proofs.point.Point.place.Goals as goal

pub returns : goal.returns
unfolding position_of
returns c = rw (c.widen-3.ensures, c.widen-2.ensures, c.widen.ensures)
