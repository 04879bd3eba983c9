-- `next` of the points' iterator: the first point and the rest of the slice, or none. Assumes nothing.
use Rattle.std.proofs.Common.{ap, ◌≡◌, ◌∙◌, ◌-◌, ◌≤◌, arith, drop, length, List, ◌∷◌, length-drop, take_all, slice_range, Float}
use Rattle.points.specs.declared.point.Point.{Point}
use Rattle.points.specs.Points.{point_at, points_of}
use Rattle.points.specs.Laws.AllPoints.{points_none, points_more}
use Rattle.points.proofs.point.PointsIterator.next.Goals as goal

one_more : (xs : List Float) {p : Point} → 6 ≤ length xs → p ≡ point_at xs 0 → points_of xs ≡ p ∷ points_of (slice_range xs 6 (length xs))
one_more xs h is = points_more xs h ∙ rw (is, take_all (length xs - 6) (drop 6 xs) (omega (arith, length-drop 6 xs)))

pub returns-then-self-lt-NUMBERS-clause-steps : goal.returns-then-self-lt-NUMBERS-clause-steps
returns-then-self-lt-NUMBERS-clause-steps c = let none = points_none _ c.if-self-lt-NUMBERS.true in (none, none)

pub returns-clause-steps : goal.returns-clause-steps
returns-clause-steps c = one_more _ c.if-self-lt-NUMBERS.false c.read-p.ensures

pub returns-clause-goes : goal.returns-clause-goes
returns-clause-goes c = let more = one_more _ c.if-self-lt-NUMBERS.false c.read-p.ensures in let fewer = ap length more in record { on = λ _. (tt, tt, omega (arith, fewer)); keeps = tt; rests = λ _. tt }
