-- `points::Point::read`: the definition reads the same six numbers. Assumes nothing.
use Rattle.std.proofs.Common.{refl}
use Rattle.points.specs.Points.{point_at}
use Rattle.points.proofs.point.Point.read.Goals as goal

pub returns : goal.returns
unfolding point_at
returns c = refl
