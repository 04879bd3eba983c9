-- `points::point::long`: between the bounds by `quick`, else by the root. Assumes nothing.
use Rattle.points.specs.Laws.SquaresHeld.{squares_held}
use Rattle.points.proofs.QuickLength.{quick}
use Rattle.points.proofs.point.long.Goals as goal

pub returns-then-square-2 : goal.returns-then-square-2
returns-then-square-2 c = quick _ (squares_held _ _ _) (rw c.squares-square.ensures at c.if-square.true) (rw c.squares-square.ensures at c.if-square-2.true)
