-- `points::Bounds::reach`: the lesser and the larger of each pair. Assumes nothing.
use Rattle.points.specs.Points.{position_of}
use Rattle.points.specs.Box.{reached}
use Rattle.points.proofs.bounds.Bounds.reach.Goals as goal

pub returns : goal.returns
unfolding reached position_of
returns c = rw (c.largest-3.ensures, c.largest-2.ensures, c.largest.ensures, c.least-3.ensures, c.least-2.ensures, c.least.ensures, c.place-at.ensures)
