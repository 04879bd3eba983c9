-- `field::splat::add_corner` meets its contract: its element gets the definition's sum.
-- Assumes nothing.
use Rattle.field.specs.Field.{corner_added}
use Rattle.field.proofs.splat.add_corner.Goals as goal

pub returns : goal.returns
unfolding corner_added
returns c = rw (c.narrow.ensures, c.weight.ensures, c.place-q.ensures, c.corner.ensures)
