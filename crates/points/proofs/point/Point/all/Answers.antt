-- `points::Point::all`: each call gives the first of what is left. Assumes nothing.
use Rattle.std.proofs.Common.{arith}
use Rattle.points.specs.Laws.AllPoints.{length_points, points_run}
use Rattle.points.proofs.point.Point.all.Goals as goal

pub returns-clause-runs : goal.returns-clause-runs
returns-clause-runs c = points_run

pub returns-clause-fits : goal.returns-clause-fits
returns-clause-fits c = omega (arith, length_points c.args.points.now)
