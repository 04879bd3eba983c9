-- `cells::cell::below` meets its contract.
-- Assumes nothing.
use Rattle.std.proofs.Common.{refl}
use Rattle.cells.specs.Extraction.{is_below}
use Rattle.cells.proofs.cell.below.Goals as goal

pub returns : goal.returns
unfolding is_below
returns c = refl
