-- `trim::moving::scatter`: before vertex w the vertices before it have their coordinates. Assumes nothing.
use Rattle.std.proofs.Common.{◌≡◌}
use Rattle.trim.specs.Words.{whole, scattered}
use Rattle.trim.proofs.moving.scatter.Given as goal

abbrev pub invariant-loop-w : goal.invariant-loop-w
invariant-loop-w l = l.vertices ≡ scattered (whole l.lines) l.axis l.initial.vertices l.w
