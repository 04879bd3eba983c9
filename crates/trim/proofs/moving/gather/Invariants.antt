-- `trim::moving::gather`: before vertex v the coordinates of the vertices before it are carried. Assumes nothing.
use Rattle.std.proofs.Common.{◌≡◌}
use Rattle.trim.specs.Words.{whole, SameLines, gathered}
use Rattle.trim.proofs.moving.gather.Given as goal

abbrev pub invariant-loop-v : goal.invariant-loop-v
invariant-loop-v l = SameLines l.initial.lines l.lines × (whole l.lines ≡ gathered l.table l.vertices l.axis (whole l.initial.lines) l.v)
