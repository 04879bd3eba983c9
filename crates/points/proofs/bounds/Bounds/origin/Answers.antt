-- `points::Bounds::origin`: the same operations on the side, axis by axis. Assumes nothing.
use Rattle.points.specs.Box.{origin_of}
use Rattle.points.proofs.bounds.Bounds.origin.Goals as goal

pub returns : goal.returns
unfolding origin_of
returns c = rw c.side-half.ensures
