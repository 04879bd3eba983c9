-- `orientation::gain` meets its contract: the two samples are those of the definition. Assumes nothing.
use Rattle.orientation.specs.Orientation.{gain_at}
use Rattle.orientation.proofs.gain.Goals as goal

pub returns : goal.returns
unfolding gain_at
returns c = rw (c.sample-2.ensures, c.sample.ensures)
