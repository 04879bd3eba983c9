-- `search::neighbours::pick`: the stride's test, then one gap more. Assumes nothing.
use Rattle.search.specs.Spacing.{gap_at}
use Rattle.search.proofs.neighbours.pick.Goals as goal

pub returns-then-seen-s-eq0 : goal.returns-then-seen-s-eq0
unfolding gap_at
returns-then-seen-s-eq0 c = rw (c.if-seen-s-eq0.true, ← c.nearest.ensures, ← c.first_positive.ensures) c.keep.ensures
