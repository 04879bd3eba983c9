-- The two loops of `roots::small_root`, whatever the guess: the first brings the square down to n, the second goes up while the next square is at most n.
-- Assumes nothing.
use Rattle.std.proofs.Common.{◌-◌, ◌*◌, ◌^◌, ◌≤◌}
use Rattle.roots.proofs.small_root.Given as goal

abbrev pub invariant-loop-r : goal.invariant-loop-r
invariant-loop-r l = l.r ≤ 2 ^ 30

abbrev pub decreases-loop-r : goal.decreases-loop-r
decreases-loop-r l = l.r

abbrev pub invariant-loop-r-2 : goal.invariant-loop-r-2
invariant-loop-r-2 l = (l.r ≤ 2 ^ 30) × (l.r * l.r ≤ l.n)

abbrev pub decreases-loop-r-2 : goal.decreases-loop-r-2
decreases-loop-r-2 l = 2 ^ 31 - l.r
