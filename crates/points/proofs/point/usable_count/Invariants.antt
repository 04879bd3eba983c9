-- `points::usable_count`: the length of the usable ones so far, one more at each. Assumes nothing.
use Rattle.std.proofs.Common.{length, ◌≡◌}
use Rattle.points.specs.Points.{given, usable_to}
use Rattle.points.proofs.point.usable_count.Given as goal

abbrev pub invariant-loop-i : goal.invariant-loop-i
invariant-loop-i l = (l.n ≡ length (usable_to l.points l.i)) × (l.i-end ≡ given l.points)
