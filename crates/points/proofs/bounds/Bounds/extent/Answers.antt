-- `points::Bounds::extent`: the largest so far, axis by axis. Assumes nothing.
use Rattle.points.specs.Box.{extent_of}
use Rattle.points.proofs.bounds.Bounds.extent.Goals as goal

pub returns : goal.returns
unfolding extent_of
returns c = rw (c.largest.ensures, c.largest-y.ensures, c.largest-x.ensures)
