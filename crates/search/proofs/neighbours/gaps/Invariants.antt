-- `search::neighbours::gaps`: the gaps so far stand in order at the front (`Gathered`). Assumes nothing.
use Rattle.points.specs.Points.{points_left}
use Rattle.search.proofs.Gaps.{Gathered}
use Rattle.search.proofs.neighbours.gaps.Given as goal

abbrev pub invariant-loop-p : goal.invariant-loop-p
invariant-loop-p l = Gathered l.s l.points l.initial.list l.list l.m l.seen l.yielded (points_left l.p-iterator)
