-- `orientation::sign_at` meets its contract: a widened float is the same number. Assumes nothing.
use Rattle.orientation.specs.Orientation.{centre_of, sign_at}
use Rattle.orientation.proofs.sign_at.Goals as goal

pub returns : goal.returns
unfolding sign_at centre_of
returns c = rw (c.sign.ensures, c.gain-3.ensures, c.widen-6.ensures, c.gain-2.ensures, c.widen-5.ensures, c.gain.ensures, c.widen-4.ensures, c.widen-3.ensures, c.widen-2.ensures, c.widen.ensures, c.centre-c.ensures, c.normal-n.ensures)
