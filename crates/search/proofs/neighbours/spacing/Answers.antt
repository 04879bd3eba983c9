-- `search::spacing`: the larger of the median and its floor, and the list cleared. Assumes nothing.
use Rattle.std.proofs.Common.{ap, ◌∙◌}
use Rattle.numbers.proofs.Laws.ConstantValues.{millionth_is}
use Rattle.search.specs.Spacing.{spacing_of}
use Rattle.lists.specs.Lists.{zeros32}
use Rattle.search.proofs.neighbours.spacing.Goals as goal

pub returns : goal.returns
unfolding spacing_of
returns c = (rw (millionth_is, c.largest.ensures, c.widen.ensures, c.median-middle.ensures, c.stride_for-s.ensures, c.usable_count.ensures), c.clear.ensures ∙ ap zeros32 c.median-middle.auto.list)
