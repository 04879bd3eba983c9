-- `points::Point::unit`: the divisions are the definition's, and widening changes no value. Assumes nothing.
use Rattle.points.specs.Points.{unit_of}
use Rattle.points.proofs.point.Point.unit.Goals as goal

pub returns : goal.returns
unfolding unit_of
returns c = rw (c.widen-3.ensures, c.widen-2.ensures, c.widen.ensures, c.length-n.ensures)
