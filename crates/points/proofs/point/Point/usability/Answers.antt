-- `points::Point::usability`: the position's test, then what the length says. Assumes nothing.
use Rattle.std.proofs.Common.{◌≡◌, false, rules}
use Rattle.points.specs.Points.{usability_of}
use Rattle.points.proofs.point.Point.usability.Goals as goal

pub returns-then-not-placed : goal.returns-then-not-placed
unfolding usability_of
returns-then-not-placed c = let no : c.placed.result ≡ false = search rules in rw (← c.placed.ensures, no)

pub returns : goal.returns
unfolding usability_of
returns c = rw (← c.placed.ensures, c.if-not-placed.false, c.judge.ensures, c.length.ensures)
