-- `points::Bounds::side`: the same operations on the extent. Assumes nothing.
use Rattle.numbers.proofs.Laws.ConstantValues.{tenth_is}
use Rattle.points.specs.Box.{side_of}
use Rattle.points.proofs.bounds.Bounds.side.Goals as goal

pub returns : goal.returns
unfolding side_of
returns c = rw (c.extent.ensures, tenth_is)
