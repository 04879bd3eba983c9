-- `points::Point::placed`: the three tests in the definition's order. Assumes nothing.
use Rattle.std.proofs.Common.{rules}
use Rattle.lists.specs.Lists.{at}
use Rattle.points.specs.Points.{placed_of}
use Rattle.points.proofs.FiniteTest.{finite_is}
use Rattle.points.proofs.point.Point.placed.Goals as goal

pub returns-then-is_finite-2 : goal.returns-then-is_finite-2
unfolding placed_of
returns-then-is_finite-2 c = rw (← finite_is (at c.args.self.at 0), ← finite_is (at c.args.self.at 1), ← finite_is (at c.args.self.at 2)) (search rules)

pub returns-else-is_finite-2 : goal.returns-else-is_finite-2
unfolding placed_of
returns-else-is_finite-2 c = rw (← finite_is (at c.args.self.at 0), ← finite_is (at c.args.self.at 1), ← finite_is (at c.args.self.at 2)) (search rules)
