-- `points::Point::usable`: it is the shadow of `usability`, test for test. Assumes nothing.
use Rattle.std.proofs.Common.{sym, ◌∙◌}
use Rattle.points.specs.Points.{length_of, usability_of, usable_of}
use Rattle.points.proofs.point.Point.usable.Goals as goal

pub returns-then-placed : goal.returns-then-placed
unfolding usable_of usability_of length_of
returns-then-placed c = rw (sym c.placed.ensures ∙ c.if-placed.true) c.long.ensures

pub returns-else-placed : goal.returns-else-placed
unfolding usable_of usability_of length_of
returns-else-placed c = rw (sym c.placed.ensures ∙ c.if-placed.false) c.if-placed.false
